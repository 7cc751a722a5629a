use Rattle.std.proofs.Common.{◌≡◌, ◌∙◌}
use Rattle.elsa_vec.specs.Vec.{GainsAll}
use Rattle.elsa_serde.proofs.Back.{seq_back}
use Rattle.elsa_serde.proofs.Content.{at_success, gained, targets_back}
use Rattle.elsa_serde.proofs.laws.vec_comes_back.Goals as goal

pub returns : goal.returns
returns g c = record {
  same = λ success only.
      let items = c.in-Ok-deserialize_owned.items.0.items in
      let pushed = at_success c.push_into.result (GainsAll g.T.HasTarget.target g.T.HasTarget.shown c.args.read.now items c.push_into.new.vec) c.is_ok.result c.is_ok.ensures.value success c.push_into.ensures.pushed in
      let back = seq_back g.T.ReadItem.events g.T.Borrow.Described.writes (λ x b. g.T.HasTarget.target x ≡ g.T.HasTarget.shown b) c.requires.item g.F.Format.gives g.F.Format.stays items c.args.vec.now
      (g.S.Serializer.written c.args.out.now) (g.S.Serializer.written c.serialize.new.out) c.args.from.now c.deserialize_owned.new.from c.in-Ok.ensures (c.in-Ok-deserialize_owned.ensures.whole c.requires.known) only in
      gained g.T.HasTarget.target g.T.HasTarget.shown items c.args.read.now c.push_into.new.vec c.requires.empty pushed ∙ targets_back g.T.HasTarget.target g.T.HasTarget.shown items c.args.vec.now back;
}
