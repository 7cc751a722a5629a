use Rattle.elsa_buckets.proofs.PlacedLemmas.{placed_same}
use Rattle.elsa_cell.proofs.hashed.HashedIndices.reserve.Goals as goal

pub returns-in_err-room-clause-stays : goal.returns-in_err-room-clause-stays
returns-in_err-room-clause-stays g c keys placed =
    let told = c.in_err-room.ensures in placed_same _ g.met.K.Eq.laws _ c.args.self.now.table c.reserve.new.self keys placed told.indices told.same

pub returns-clause-stays : goal.returns-clause-stays
returns-clause-stays g c keys placed =
    let told = c.in_ok-room.ensures in placed_same _ g.met.K.Eq.laws _ c.args.self.now.table c.reserve.new.self keys placed told.indices told.same
