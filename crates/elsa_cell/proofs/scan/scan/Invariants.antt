use Rattle.std.proofs.Common.{◌-◌, ◌≤◌}
use Rattle.elsa_cell.proofs.ScanLemmas.{NoneBefore}
use Rattle.elsa_cell.proofs.scan.scan.Given as goal

-- No key so far is found.
abbrev pub invariant-loop-index : goal.invariant-loop-index
invariant-loop-index g l = (l.index ≤ l.count) × NoneBefore (g.Q.Seeks.finds l.query) (g.L.KeyList.keys l.keys) l.index

abbrev pub decreases-loop-index : goal.decreases-loop-index
decreases-loop-index g l = l.count - l.index
