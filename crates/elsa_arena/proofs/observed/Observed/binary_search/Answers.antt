use Rattle.std.proofs.Common.{rules}
use Rattle.elsa_arena.proofs.Bracketed.{bracket_of, said_by_item, splits_list, within_list}
use Rattle.elsa_arena.proofs.observed.Observed.binary_search.Goals as goal

pub returns-clause-bracket : goal.returns-clause-bracket
returns-clause-bracket g c =
    let found = c.search_by.ensures.0 in
    bracket_of _ _ (said_by_item _ _ _ (λ item. g.T.Ord.cmp item c.args.target.now) (λ item o after called. search rules) found.calls found.end found.in_turn) found.bracket

pub returns-clause-sorted : goal.returns-clause-sorted
returns-clause-sorted g c = splits_list _ _ (λ item. g.T.Ord.cmp item c.args.target.now) (λ i o said. said) _ (returns-clause-bracket g c)

pub returns-clause-within : goal.returns-clause-within
returns-clause-within g c = let found = c.search_by.ensures.0 in within_list _ _ _ _ found
