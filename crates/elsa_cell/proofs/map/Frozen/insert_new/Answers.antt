use Rattle.std.proofs.Common.{subst}
use Rattle.std.proofs.lemmas.Result.{IfOk-weaker}
use Rattle.elsa_cell.specs.Entries.{HoldsEach}
use Rattle.elsa_cell.proofs.RuleLemmas.{inserted_holds}
use Rattle.elsa_cell.proofs.map.Frozen.insert_new.Goals as goal

pub returns-clause-holds : goal.returns-clause-holds
returns-clause-holds g c =
    let new = c.insert_new-inserted.new.self.seen in
    IfOk-weaker c.insert_new-inserted.result _ _ (λ r i. inserted_holds g.R.EntryRule.holds g.T.Indices.same g.met.T.Indices.equivalence.refl c.in-Ok.hold.seen new c.args.key c.args.value r.value.now r.index r.is_new (subst (λ v. HoldsEach g.R.EntryRule.holds v.seen) c.deref.ensures c.obeys_invariant.ensures.holds) (λ _. c.requires.rule) i) c.insert_new-inserted.ensures.inserted
