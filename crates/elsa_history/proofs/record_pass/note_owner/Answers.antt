use Rattle.std.proofs.Common.{arith}
use Rattle.elsa_history.specs.declared.record_pass.TheConstants.{NOBODY}
use Rattle.elsa_history.proofs.Owners.{noted, one_more, past_end}
use Rattle.elsa_history.proofs.record_pass.note_owner.Goals as goal

pub loop-receipt-preserved-then-index-len : goal.loop-receipt-preserved-then-index-len
loop-receipt-preserved-then-index-len g c = λ index h.
    let so_far = c.loop-receipt.invariant index h in (
      so_far.0,
      one_more index c.args.receipts.now c.loop-receipt.receipt-index c.receipt-item.result c.loop-receipt-test.true c.receipt-item.is so_far.1
          (past_end c.loop-receipt.owners.items c.receipt-item.result.0 index NOBODY (omega (arith, c.len.ensures, c.if-index-len.true)) h),
    )

pub loop-receipt-preserved : goal.loop-receipt-preserved
loop-receipt-preserved g c = λ index h.
    let was = noted c.loop-receipt.owners.items c.receipt-item.result.0 c.args.owner NOBODY index c.requires h in
    let so_far = c.loop-receipt.invariant index was.0 in
    (so_far.0, one_more index c.args.receipts.now c.loop-receipt.receipt-index c.receipt-item.result c.loop-receipt-test.true c.receipt-item.is so_far.1 was.1)
