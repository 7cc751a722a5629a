use Rattle.std.proofs.Common.{◌-◌, length}
use Rattle.std.specs.Fn.{CalledAt}
use Rattle.std.specs.declared.cmp.Ordering.TheVariants.{Less, Greater}
use Rattle.elsa_arena.specs.Search.{SearchedTo}
use Rattle.elsa_arena.proofs.Narrowing.{Narrowed}
use Rattle.elsa_arena.proofs.search.search_by.Given as goal

abbrev pub invariant-loop-left : goal.invariant-loop-left
invariant-loop-left g l =
    SearchedTo (CalledAt g.F.FnMut) l.items.seen l.fn.order l.order (Narrowed Less Greater (length l.items.seen) l.left l.right)

abbrev pub decreases-loop-left : goal.decreases-loop-left
decreases-loop-left g l = l.right - l.left
