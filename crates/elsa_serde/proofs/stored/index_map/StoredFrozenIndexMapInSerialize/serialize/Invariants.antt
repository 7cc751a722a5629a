use Rattle.serde.specs.Event.{WritesEntry}
use Rattle.serde.proofs.Events.{WritesUpTo}
use Rattle.elsa_serde.proofs.stored.index_map.StoredFrozenIndexMapInSerialize.serialize.Given as goal

abbrev pub invariant-loop-key : goal.invariant-loop-key
invariant-loop-key g l = WritesUpTo (WritesEntry g.K.Described.writes g.V.Borrow.Described.writes) l.self.0.now l.key-iterator (g.S.Serializer.written l.initial.out) (g.S.Serializer.written l.out)
