use Rattle.serde.proofs.Events.{WritesUpTo}
use Rattle.elsa_serde.proofs.stored.index_set.StoredFrozenIndexSetInSerialize.serialize.Given as goal

abbrev pub invariant-loop-value : goal.invariant-loop-value
invariant-loop-value g l = WritesUpTo g.T.Borrow.Described.writes l.self.0.now l.value-iterator (g.S.Serializer.written l.initial.out) (g.S.Serializer.written l.out)
