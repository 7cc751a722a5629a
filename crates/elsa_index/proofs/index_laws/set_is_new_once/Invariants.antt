use Rattle.elsa_tables.specs.Insertions.{Grows}
use Rattle.elsa_tables.proofs.Growing.{AreFound}
use Rattle.elsa_index.proofs.index_laws.set_is_new_once.Given as goal

abbrev pub invariant-loop-value : goal.invariant-loop-value
invariant-loop-value g l = record {
  between : AreFound g.T.LookUp.finds l.set l.yielded;
  kept : Grows l.initial.set l.set;
}
