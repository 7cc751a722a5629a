use Rattle.std.proofs.Common.{arith}
use Rattle.elsa_cell.proofs.EntryLemmas.{length_entries}
use Rattle.elsa_cell.proofs.map_state.PairsSinkEntry.receive.Goals as goal

pub push_reserved-requires : goal.push_reserved-requires
push_reserved-requires g c = let room = c.requires.room in let l = length_entries c.args.self.now.items.items in omega (arith, room, l)
