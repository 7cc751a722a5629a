use Rattle.std.proofs.Common.{◌+◌, ◌≤◌, ◌-◌, length, vec_items}
use Rattle.elsa_cell.specs.Ordered.{IsBetween, joined, rank_of}
use Rattle.elsa_cell.proofs.ordered.search.Given as goal

abbrev pub invariant-loop-low : goal.invariant-loop-low
invariant-loop-low g l = (l.low ≤ l.high) × (l.high ≤ length l.order)
    × IsBetween (g.Q.OrderQuery.against l.query) (joined vec_items l.blocks) (g.L.KeyList.keys l.keys) (rank_of vec_items l.blocks l.at + l.low) (rank_of vec_items l.blocks l.at + l.high)

abbrev pub decreases-loop-low : goal.decreases-loop-low
decreases-loop-low g l = l.high - l.low
