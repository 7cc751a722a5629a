use Rattle.std.proofs.Common.{◌≡◌, ◌++◌, ◌∙◌, ap, map, string_bytes}
use Rattle.elsa_serde.specs.Read.{text_events}
use Rattle.elsa_serde.specs.Written.{WritesText}
use Rattle.elsa_serde.proofs.Back.{seq_back}
use Rattle.elsa_serde.proofs.Content.{at_success, same_items}
use Rattle.elsa_serde.proofs.Known.{text_back}
use Rattle.elsa_serde.proofs.laws.names_come_back.Goals as goal

pub returns : goal.returns
returns g c = record {
  same = λ success only.
      let texts = map string_bytes c.in-Ok-deserialize_owned.texts.0.items in
      let put = at_success c.put_into.result (c.put_into.new.names ≡ c.args.read.now ++ texts) c.is_ok.result c.is_ok.ensures.value success c.put_into.ensures.inserted in
      let back = seq_back text_events WritesText (λ x y. x ≡ y) (text_back (λ x. x) (λ x. x)) g.F.Format.gives g.F.Format.stays texts c.args.names.now
      (g.S.Serializer.written c.args.out.now) (g.S.Serializer.written c.serialize.new.out) c.args.from.now c.deserialize_owned.new.from c.in-Ok.ensures c.in-Ok-deserialize_owned.ensures.whole only in
      put ∙ ap (λ names. names ++ texts) c.requires.empty ∙ same_items texts c.args.names.now back;
}
