use Rattle.serde.specs.Event.{boolean}
use Rattle.elsa_serde.proofs.Reading.{one_event}
use Rattle.elsa_serde.proofs.read_item.BoolReadItem.read_item.Goals as goal

pub returns : goal.returns
returns g c = record { whole = one_event g.F.Format.gives g.F.Format.stays c.deserialize_owned.result boolean c.args.from.now c.deserialize_owned.new.from c.deserialize_owned.ensures }
