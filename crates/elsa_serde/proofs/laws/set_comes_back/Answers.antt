use Rattle.std.proofs.Common.{◌≡◌, ◌∙◌}
use Rattle.elsa_serde.specs.Loaded.{AddsValue}
use Rattle.elsa_serde.specs.Read.{InTurn}
use Rattle.elsa_serde.proofs.Back.{seq_back}
use Rattle.elsa_serde.proofs.Content.{at_success, set_gained, targets_back}
use Rattle.elsa_serde.proofs.laws.set_comes_back.Goals as goal

pub returns : goal.returns
returns g c = record {
  same = λ success only.
      let items = c.in-Ok-deserialize_owned.items.0.items in
      let inserted = at_success c.insert_into.result (InTurn (AddsValue g.T.HasTarget.target g.T.HasTarget.shown g.T.LookUp.finds) c.args.read.now items c.insert_into.new.set) c.is_ok.result c.is_ok.ensures.value success c.insert_into.ensures.inserted in
      let back = seq_back g.T.ReadItem.events g.T.Borrow.Described.writes (λ x b. g.T.HasTarget.target x ≡ g.T.HasTarget.shown b) c.requires.item g.F.Format.gives g.F.Format.stays items c.args.set.now
      (g.S.Serializer.written c.args.out.now) (g.S.Serializer.written c.serialize.new.out) c.args.from.now c.deserialize_owned.new.from c.in-Ok.ensures (c.in-Ok-deserialize_owned.ensures.whole c.requires.known) only in
      set_gained g.T.HasTarget.target g.T.HasTarget.shown g.T.LookUp.finds items c.args.read.now c.insert_into.new.set c.requires.empty inserted ∙ targets_back g.T.HasTarget.target g.T.HasTarget.shown items c.args.set.now back;
}
