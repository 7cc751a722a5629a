use Rattle.elsa_index.proofs.index_set.FrozenIndexSet+ref+str+S+A+P.insert_full_text.Goals as goal

-- The facts about the stored text are true for the given one, which has the same bytes.
pub returns-clause-index_after : goal.returns-clause-index_after
returns-clause-index_after g c = rw (c.in_ok-placed.ensures) at c.insert_absent.ensures.index_after
