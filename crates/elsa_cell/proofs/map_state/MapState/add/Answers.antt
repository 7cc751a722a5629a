use Rattle.std.proofs.Common.{map}
use Rattle.elsa_cell.specs.Entries.{key_of}
use Rattle.elsa_cell.proofs.map_state.MapState.add.Goals as goal

pub reserve-requires : goal.reserve-requires
reserve-requires g c = (map key_of c.args.self.now.list.prefix.items, c.args.entry.key, c.requires.end)
