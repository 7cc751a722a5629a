use Rattle.std.proofs.Common.{◌<◌, ◌≤◌, ◌-◌, length, vec_items}
use Rattle.elsa_cell.specs.Ordered.{IsBetween, joined, rank_of}
use Rattle.elsa_cell.proofs.ordered.block_of.Given as goal

abbrev pub invariant-loop-high : goal.invariant-loop-high
invariant-loop-high g l = (l.low < l.high) × (l.high ≤ length l.blocks)
    × IsBetween (g.Q.OrderQuery.against l.query) (joined vec_items l.blocks) (g.L.KeyList.keys l.keys) (rank_of vec_items l.blocks l.low) (rank_of vec_items l.blocks l.high)

abbrev pub decreases-loop-high : goal.decreases-loop-high
decreases-loop-high g l = l.high - l.low
