use Rattle.std.proofs.Common.{length}
use Rattle.elsa_arena.specs.Search.{ComparesAt}
use Rattle.elsa_arena.proofs.Bracketed.{in_range}
use Rattle.elsa_arena.proofs.items.Items.binary_search.Goals as goal

pub returns : goal.returns
returns g c =
    let low = c.obeys_invariant.ensures.limit in
    record { limit = in_range (ComparesAt g.T.Ord.cmp c.args.target.now c.observed-items.result.seen) (length c.observed-items.result.seen) _ c.binary_search.result low c.binary_search.ensures.within c.binary_search.ensures.bracket }
