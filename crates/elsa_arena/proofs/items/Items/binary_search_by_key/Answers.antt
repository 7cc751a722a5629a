use Rattle.std.proofs.Common.{length}
use Rattle.elsa_arena.specs.Search.{Answered}
use Rattle.elsa_arena.proofs.Bracketed.{in_range}
use Rattle.elsa_arena.proofs.Callable.{always_callable_at_refs}
use Rattle.elsa_arena.proofs.items.Items.binary_search_by_key.Goals as goal

pub binary_search_by_key-requires : goal.binary_search_by_key-requires
binary_search_by_key-requires g c = record { at_items = always_callable_at_refs g.F.FnMut _ _ c.requires.callable }

pub returns : goal.returns
returns g c =
    let low = c.obeys_invariant.ensures.limit in
    record { limit = in_range (Answered c.binary_search_by_key.ensures.bracket.calls) (length c.observed-items.result.seen) _ c.binary_search_by_key.result low c.binary_search_by_key.ensures.within c.binary_search_by_key.ensures.bracket.bracket }
