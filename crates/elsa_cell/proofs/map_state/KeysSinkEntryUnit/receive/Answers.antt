use Rattle.std.proofs.Common.{arith}
use Rattle.elsa_cell.proofs.EntryLemmas.{length_alone}
use Rattle.elsa_cell.proofs.map_state.KeysSinkEntryUnit.receive.Goals as goal

pub push_reserved-requires : goal.push_reserved-requires
push_reserved-requires g c = let room = c.requires.room in let l = length_alone c.args.self.now.items.items in omega (arith, room, l)
