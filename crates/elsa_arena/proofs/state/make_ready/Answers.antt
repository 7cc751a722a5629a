use Rattle.std.proofs.Common.{◌∷◌, [], length, length-append, subst, sym, ap, ◌∙◌, arith}
use Rattle.elsa_arena.specs.declared.state.Fresh.{Fresh}
use Rattle.elsa_arena.specs.Ready.{AreNext}
use Rattle.elsa_arena.proofs.ReadyLemmas.{next_more}
use Rattle.elsa_arena.proofs.state.make_ready.Goals as goal

pub loop-next-preserved : goal.loop-next-preserved
loop-next-preserved g c =
    let fs = c.loop-next.ready.items in let inv = c.loop-next.invariant in let items = c.in-Ok.ensures.items in
    let f : Fresh g.row.T.Denot g.row.A.Denot = record { buffer = c.in_ok-buffer.buffer; slots = c.in_ok-buffer.slots } in
    let its = c.in_ok-buffer.ensures.slots in
    let more = next_more c.args.first c.loop-next.next fs f inv.0 inv.1 (its.0 ∙ c.buffer_size.ensures) its.1 in
    let many = ap length items ∙ length-append fs (f ∷ []) in let is = inv.1 in let less = inv.3 in let test = c.loop-next-test.true in let end = c.requires.end in
    (subst (λ xs. AreNext c.args.first xs) (sym items) more, omega (arith, many, is), omega (arith, test, end), omega (arith, many, less))
