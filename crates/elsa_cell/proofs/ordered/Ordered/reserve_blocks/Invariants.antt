use Rattle.std.proofs.Common.{◌≡◌, ◌-◌, length}
use Rattle.elsa_cell.proofs.ordered.Ordered.reserve_blocks.Given as goal

abbrev pub invariant-loop-self : goal.invariant-loop-self
invariant-loop-self g l = (l.self.blocks.items ≡ l.initial.self.blocks.items) × (l.self.count ≡ l.initial.self.count)

abbrev pub decreases-loop-self : goal.decreases-loop-self
decreases-loop-self g l = l.more - length l.self.spare.items
