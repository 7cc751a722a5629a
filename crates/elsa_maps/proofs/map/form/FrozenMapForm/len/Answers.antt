use Rattle.elsa_maps.proofs.map.form.FrozenMapForm.len.Goals as goal

pub returns-clause-equivalence : goal.returns-clause-equivalence
returns-clause-equivalence g c = g.met.T.Table.equivalence
