use Rattle.std.proofs.Common.{string_bytes}
use Rattle.serde.specs.Event.{text}
use Rattle.elsa_serde.proofs.Reading.{one_event}
use Rattle.elsa_serde.proofs.read_item.StringReadItem.read_item.Goals as goal

pub returns : goal.returns
returns g c = record { whole = one_event g.F.Format.gives g.F.Format.stays c.deserialize_owned.result (λ v. text (string_bytes v)) c.args.from.now c.deserialize_owned.new.from c.deserialize_owned.ensures }
