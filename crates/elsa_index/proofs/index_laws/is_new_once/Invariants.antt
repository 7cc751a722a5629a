use Rattle.std.specs.Map.{keys_of}
use Rattle.elsa_tables.specs.Insertions.{Grows}
use Rattle.elsa_tables.proofs.Growing.{AreFound}
use Rattle.elsa_index.proofs.index_laws.is_new_once.Given as goal

abbrev pub invariant-loop-pair : goal.invariant-loop-pair
invariant-loop-pair g l = record {
  between : AreFound (λ pair. g.K.PartialEq.eq pair.0) (keys_of l.map) l.yielded;
  kept : Grows l.initial.map l.map;
}
