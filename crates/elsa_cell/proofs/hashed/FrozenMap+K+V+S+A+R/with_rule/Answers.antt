use Rattle.elsa_buckets.specs.Placed.{key_hash}
use Rattle.elsa_buckets.proofs.PlacedLemmas.{placed_none}
use Rattle.elsa_cell.proofs.hashed.FrozenMap+K+V+S+A+R.with_rule.Goals as goal

-- The empty table is for no keys.
pub over-requires : goal.over-requires
over-requires g c =
    placed_none _ g.met.K.Eq.laws (λ (k : g.row.K.Denot). key_hash g.S.BuildHasher g.S.Hasher.Hasher c.args.hash_builder (g.K.Hash.hash_input k)) c.new-table.result c.new-table.ensures.indices
