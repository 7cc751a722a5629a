use Rattle.std.proofs.Common.{List, subst, sym}
use Rattle.std.specs.Map.{keys_of}
use Rattle.elsa_buckets.specs.Placed.{key_hash, IsPlaced}
use Rattle.elsa_buckets.proofs.PlacedLemmas.{placed_same}
use Rattle.elsa_buckets.proofs.append_map.AppendMap.reserve.Goals as goal

-- The list's allocation failed.
pub invariant_of-self : goal.invariant_of-self
invariant_of-self g c =
    let hash = λ (k : g.row.K.Denot). key_hash g.S.BuildHasher g.S.Hasher.Hasher c.self.inside.hash_builder (g.K.Hash.hash_input k) in
    subst (λ (l : List (g.row.K.Denot × g.row.B.Denot)). IsPlaced g.K.PartialEq.eq hash c.self.inside.table (keys_of l)) (sym c.in_default-reserve.ensures.items) c.self.invariant

-- The table's allocation failed.
pub invariant_of-self-in_default-reserve_indices : goal.invariant_of-self-in_default-reserve_indices
invariant_of-self-in_default-reserve_indices g c =
    let hash = λ (k : g.row.K.Denot). key_hash g.S.BuildHasher g.S.Hasher.Hasher c.self.inside.hash_builder (g.K.Hash.hash_input k) in
    let after = c.reserve_indices.new.self in
    let shown = c.in_default-reserve_indices.ensures in
    subst (λ (l : List (g.row.K.Denot × g.row.B.Denot)). IsPlaced g.K.PartialEq.eq hash after (keys_of l)) (sym c.in-Ok.ensures.items)
    (placed_same _ g.met.K.Eq.laws _ c.self.inside.table after (keys_of c.self.inside.pairs.items) c.self.invariant shown.indices shown.same)

-- There is room.
pub invariant_of-self-2 : goal.invariant_of-self-2
invariant_of-self-2 g c =
    let hash = λ (k : g.row.K.Denot). key_hash g.S.BuildHasher g.S.Hasher.Hasher c.self.inside.hash_builder (g.K.Hash.hash_input k) in
    let after = c.reserve_indices.new.self in
    let shown = c.in-Ok-reserve_indices.ensures in
    subst (λ (l : List (g.row.K.Denot × g.row.B.Denot)). IsPlaced g.K.PartialEq.eq hash after (keys_of l)) (sym c.in-Ok.ensures.items)
    (placed_same _ g.met.K.Eq.laws _ c.self.inside.table after (keys_of c.self.inside.pairs.items) c.self.invariant shown.indices shown.same)
