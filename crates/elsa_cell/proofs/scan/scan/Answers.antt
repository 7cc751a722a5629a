use Rattle.std.proofs.Common.{arith, sym, ◌∙◌}
use Rattle.elsa_cell.proofs.ScanLemmas.{scan_end, scan_here}
use Rattle.elsa_cell.proofs.scan.scan.Goals as goal

pub returns-then-matches : goal.returns-then-matches
returns-then-matches g c =
    sym (scan_here (g.Q.Seeks.finds c.args.query) (g.L.KeyList.keys c.args.keys.now) c.loop-index.index c.key_at.result.now c.loop-index.invariant.1 c.key_at.ensures (sym c.matches.ensures ∙ c.if-matches.true))

pub returns : goal.returns
returns g c =
    let past = c.loop-index-test.false in let within = c.loop-index.invariant.0 in let all = c.requires in
    sym (scan_end (g.Q.Seeks.finds c.args.query) (g.L.KeyList.keys c.args.keys.now) c.loop-index.index c.loop-index.invariant.1 (omega (arith, past, within, all)))
