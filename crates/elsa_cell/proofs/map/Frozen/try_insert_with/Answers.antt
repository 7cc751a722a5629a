use Rattle.elsa_cell.proofs.RuleLemmas.{inserted_holds, ok_of_both}
use Rattle.elsa_cell.proofs.map.Frozen.try_insert_with.Goals as goal

pub returns-clause-holds : goal.returns-clause-holds
returns-clause-holds g c =
    let new = c.try_insert_with_as-inserted.new.observed.seen in
    ok_of_both c.try_insert_with_as-inserted.result _ _ _ (λ r i made. inserted_holds g.R.EntryRule.holds g.T.Indices.same g.met.T.Indices.equivalence.refl i.0 new c.args.key r.value.now r.value.now r.index r.is_new c.obeys_invariant.ensures.holds (λ is. c.requires.rule r.value.now (made is)) i.2) c.try_insert_with_as-inserted.ensures.inserted c.try_insert_with_as-inserted.ensures.made
