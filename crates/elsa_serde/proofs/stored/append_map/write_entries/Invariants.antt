use Rattle.std.proofs.Common.{drop}
use Rattle.serde.specs.Event.{WritesEntry}
use Rattle.serde.proofs.Events.{WritesUpTo}
use Rattle.elsa_serde.proofs.stored.append_map.write_entries.Given as goal

abbrev pub invariant-loop-entry : goal.invariant-loop-entry
invariant-loop-entry g l = WritesUpTo (WritesEntry g.K.Described.writes g.B.Described.writes) l.entries (drop l.entry-index l.entries) (g.S.Serializer.written l.initial.out) (g.S.Serializer.written l.out)
