use Rattle.std.proofs.Common.{◌∷◌, None}
use Rattle.serde.specs.Event.{map_begins}
use Rattle.elsa_serde.specs.Read.{ReadsEvents, entry_events, events_of_each}
use Rattle.elsa_serde.proofs.read_item.read_entries.Given as goal

abbrev pub invariant-loop : goal.invariant-loop
invariant-loop g l =
    g.K.ReadItem.known → g.V.ReadItem.known
    → ReadsEvents g.F.Format.gives g.F.Format.stays l.fn.from (map_begins None ∷ events_of_each (entry_events g.K.ReadItem.events g.V.ReadItem.events) l.entries.items) l.from
