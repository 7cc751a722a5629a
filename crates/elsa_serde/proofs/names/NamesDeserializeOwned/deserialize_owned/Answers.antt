use Rattle.std.proofs.Common.{◌++◌, ◌∷◌, [], None, map, string_bytes, ap, subst, sym}
use Rattle.serde.specs.Event.{seq_begins, seq_ends}
use Rattle.elsa_serde.specs.Read.{ReadsEvents, text_events}
use Rattle.elsa_serde.proofs.Reading.{events_of_each_map}
use Rattle.elsa_serde.proofs.names.NamesDeserializeOwned.deserialize_owned.Goals as goal

pub returns : goal.returns
returns g c = record {
  whole = subst (λ es. ReadsEvents g.F.Format.gives g.F.Format.stays c.args.from.now (seq_begins None ∷ (es ++ seq_ends ∷ [])) c.read_item.new.from)
      (sym (events_of_each_map text_events string_bytes c.in_ok-read_item.field-0.items)) (c.in_ok-read_item.ensures.whole tt);
}
