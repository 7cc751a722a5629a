use Rattle.elsa_buckets.proofs.PlacedLemmas.{placed_same}
use Rattle.elsa_cell.proofs.hashed.HashedIndices.reserve_more.Goals as goal

pub returns : goal.returns
returns g c =
    let told = c.reserve_indices.ensures in
    record { stays = λ keys placed. placed_same _ g.met.K.Eq.laws _ c.args.self.now.table c.reserve_indices.new.self keys placed told.indices told.same }
