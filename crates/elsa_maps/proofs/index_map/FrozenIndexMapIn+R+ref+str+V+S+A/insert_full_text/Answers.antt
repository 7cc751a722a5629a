use Rattle.elsa_maps.proofs.index_map.FrozenIndexMapIn+R+ref+str+V+S+A.insert_full_text.Goals as goal

-- what was said of the stored text holds of the one that was given: they read the same
pub returns-clause-value_after : goal.returns-clause-value_after
returns-clause-value_after g c = rw (c.in_ok-placed.ensures) at c.insert_full.ensures.value_after

pub returns-clause-index_after : goal.returns-clause-index_after
returns-clause-index_after g c = rw (c.in_ok-placed.ensures) at c.insert_full.ensures.index_after
