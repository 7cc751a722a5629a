use Rattle.elsa_buckets.proofs.PlacedLemmas.{placed_put}
use Rattle.elsa_cell.proofs.hashed.HashedIndices.add.Goals as goal

pub returns : goal.returns
returns g c keys key placed room none =
    placed_put _ g.met.K.Eq.laws _ c.args.self.now.table c.add.new.self keys key c.args.end.hash c.add.result placed room.1 c.add.ensures.index c.add.ensures.indices c.add.ensures.adds none
