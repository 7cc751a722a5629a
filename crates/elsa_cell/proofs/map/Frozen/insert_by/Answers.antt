use Rattle.std.proofs.lemmas.Result.{IfOk-weaker}
use Rattle.elsa_cell.proofs.RuleLemmas.{got_holds}
use Rattle.elsa_cell.proofs.map.Frozen.insert_by.Goals as goal

pub returns-clause-holds : goal.returns-clause-holds
returns-clause-holds g c =
    let new = c.insert_by_as-inserted.new.observed.seen in
    IfOk-weaker c.insert_by_as-inserted.result _ _ (λ r i. got_holds g.R.EntryRule.holds g.T.Indices.same g.met.T.Indices.equivalence.refl (g.Q.Seeks.finds c.args.query) _ _ new r.value.now r.index r.is_new c.obeys_invariant.ensures.holds c.requires.rule i) c.insert_by_as-inserted.ensures.inserted
