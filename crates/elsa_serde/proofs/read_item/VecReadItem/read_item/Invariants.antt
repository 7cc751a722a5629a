use Rattle.std.proofs.Common.{◌∷◌, None}
use Rattle.serde.specs.Event.{seq_begins}
use Rattle.elsa_serde.specs.Read.{ReadsEvents, events_of_each}
use Rattle.elsa_serde.proofs.read_item.VecReadItem.read_item.Given as goal

abbrev pub invariant-loop : goal.invariant-loop
invariant-loop g l =
    g.T.ReadItem.known → ReadsEvents g.F.Format.gives g.F.Format.stays l.fn.from (seq_begins None ∷ events_of_each g.T.ReadItem.events l.items.items) l.from
