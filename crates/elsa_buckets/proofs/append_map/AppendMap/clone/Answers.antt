use Rattle.std.proofs.Common.{◌≡◌, true, ap, subst, sym}
use Rattle.std.specs.Map.{keys_of}
use Rattle.elsa_tables.specs.Insertions.{IsCloneOf}
use Rattle.elsa_buckets.specs.Placed.{key_hash, IsPlaced}
use Rattle.elsa_buckets.proofs.AppendLemmas.{placed_clones}
use Rattle.elsa_buckets.proofs.append_map.AppendMap.clone.Goals as goal

pub invariant_of-result : goal.invariant_of-result
invariant_of-result g c =
    let same = g.K.PartialEq.eq in
    let hash = λ (k : g.row.K.Denot). key_hash g.S.BuildHasher g.S.Hasher.Hasher c.self.inside.hash_builder (g.K.Hash.hash_input k) in
    let respects = λ (x y : g.row.K.Denot) (e : same x y ≡ true). ap (key_hash g.S.BuildHasher g.S.Hasher.Hasher c.self.inside.hash_builder) (g.met.K.Hash.respects_eq x y e) in
    let es = c.self.inside.pairs.items in
    let cs = c.in_ok-pairs.pairs.items in
    let clones = subst (λ l. IsCloneOf same g.K.Clone.is_clone l cs) c.as_slice.ensures.value c.in_ok-pairs.ensures in
    subst (λ t. IsPlaced same hash t (keys_of cs)) (sym c.in_ok-table.ensures)
    (placed_clones same g.met.K.Eq.laws hash g.K.Clone.is_clone c.self.inside.table es cs respects c.self.invariant clones)
