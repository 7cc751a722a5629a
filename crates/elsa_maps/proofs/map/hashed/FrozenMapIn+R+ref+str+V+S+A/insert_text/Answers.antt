use Rattle.elsa_maps.proofs.map.hashed.FrozenMapIn+R+ref+str+V+S+A.insert_text.Goals as goal

-- what was said of the stored text holds of the one that was given: they read the same
pub returns-clause-value_after : goal.returns-clause-value_after
returns-clause-value_after g c = rw (c.in_ok-placed.ensures) at c.insert.ensures.value_after
