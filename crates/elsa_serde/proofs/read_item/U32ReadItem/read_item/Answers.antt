use Rattle.serde.specs.Event.{unsigned}
use Rattle.elsa_serde.proofs.Reading.{one_event}
use Rattle.elsa_serde.proofs.read_item.U32ReadItem.read_item.Goals as goal

pub returns : goal.returns
returns g c = record { whole = one_event g.F.Format.gives g.F.Format.stays c.deserialize_owned.result unsigned c.args.from.now c.deserialize_owned.new.from c.deserialize_owned.ensures }
