use Rattle.std.proofs.Common.{◌-◌, length}
use Rattle.std.specs.declared.cmp.Ordering.TheVariants.{Less, Greater}
use Rattle.elsa_arena.specs.Search.{Compares, SearchedTo}
use Rattle.elsa_arena.proofs.Narrowing.{Narrowed}
use Rattle.elsa_vec.proofs.search.binary_search_by_key.Given as goal

abbrev pub invariant-loop-left : goal.invariant-loop-left
invariant-loop-left g l =
    SearchedTo (Compares g.K.Ord.cmp l.key (λ p b r q. goal.F-step g p b r q)) l.items l.fn.key_of l.key_of (Narrowed Less Greater (length l.items) l.left l.right)

abbrev pub decreases-loop-left : goal.decreases-loop-left
decreases-loop-left g l = l.right - l.left
