use Rattle.std.proofs.Common.{rules}
use Rattle.elsa_arena.proofs.Bracketed.{bracket_of, said_by_item}
use Rattle.elsa_vec.proofs.search.binary_search.Goals as goal

pub returns : goal.returns
returns g c =
    let found = c.binary_search_by.ensures.0 in
    bracket_of _ _ (said_by_item _ _ _ (λ item. g.B.Ord.cmp item c.args.target.now) (λ item o after called. search rules) found.calls found.end found.in_turn) found.bracket
