use Rattle.std.proofs.Common.{◌≡◌, ◌++◌, ◌∷◌, [], List, None, position, refl, ap, subst, sym, ◌∙◌}
use Rattle.std.specs.Map.{keys_of, lookup}
use Rattle.std.specs.Option.{unwrap_or}
use Rattle.std_collections.proofs.HashLookup.{keys_push}
use Rattle.elsa_tables.specs.Tables.{AddsNew}
use Rattle.elsa_buckets.specs.Placed.{key_hash, IsPlaced}
use Rattle.elsa_buckets.proofs.AppendLemmas.{appended}
use Rattle.elsa_buckets.proofs.PlacedLemmas.{placed_put, placed_same}
use Rattle.elsa_buckets.proofs.append_map.AppendMapTable.put_with.Goals as goal

pub search-requires : goal.search-requires
search-requires g c =
    let hash = λ (k : g.row.K.Denot). key_hash g.S.BuildHasher g.S.Hasher.Hasher c.self.inside.hash_builder (g.K.Hash.hash_input k) in
    subst (λ (l : List (g.row.K.Denot × g.row.B.Denot)). IsPlaced g.K.PartialEq.eq hash c.self.inside.table (keys_of l)) (sym c.as_slice-pairs.ensures.value) c.self.invariant

pub returns-in-Ok-clause-present : goal.returns-in-Ok-clause-present
returns-in-Ok-clause-present g c x e =
    let there = c.index-pairs-index.result in
    let same = sym (c.in-Ok.ensures.value there) ∙ ap (lookup (g.K.PartialEq.eq c.args.key)) (c.as_slice-pairs.ensures.value ∙ c.self.view_is) ∙ e in
    (refl, ((_, c.read.ensures, ap (λ o. unwrap_or o x) same), refl))

-- The allocation for the entry failed.
pub invariant_of-self : goal.invariant_of-self
invariant_of-self g c =
    let hash = λ (k : g.row.K.Denot). key_hash g.S.BuildHasher g.S.Hasher.Hasher c.self.inside.hash_builder (g.K.Hash.hash_input k) in
    subst (λ (l : List (g.row.K.Denot × g.row.B.Denot)). IsPlaced g.K.PartialEq.eq hash c.self.inside.table (keys_of l)) (sym c.in_default.ensures.items) c.self.invariant

-- The allocation for the buckets failed, or the map is full.
pub invariant_of-self-in_default-reserve : goal.invariant_of-self-in_default-reserve
invariant_of-self-in_default-reserve g c =
    let hash = λ (k : g.row.K.Denot). key_hash g.S.BuildHasher g.S.Hasher.Hasher c.self.inside.hash_builder (g.K.Hash.hash_input k) in
    let wide = c.reserve-2.new.self in
    let told = c.in_default-reserve.ensures in
    subst (λ (l : List (g.row.K.Denot × g.row.B.Denot)). IsPlaced g.K.PartialEq.eq hash wide (keys_of l)) (sym c.in-Ok-reserve.ensures.items)
    (placed_same _ g.met.K.Eq.laws _ c.self.inside.table wide (keys_of c.self.inside.pairs.items) c.self.invariant told.indices told.same)

-- The closure failed.
pub invariant_of-self-in-Err-make : goal.invariant_of-self-in-Err-make
invariant_of-self-in-Err-make g c =
    let hash = λ (k : g.row.K.Denot). key_hash g.S.BuildHasher g.S.Hasher.Hasher c.self.inside.hash_builder (g.K.Hash.hash_input k) in
    let wide = c.reserve-2.new.self in
    let told = c.in-Ok-reserve-2.ensures in
    subst (λ (l : List (g.row.K.Denot × g.row.B.Denot)). IsPlaced g.K.PartialEq.eq hash wide (keys_of l)) (sym c.in-Ok-reserve.ensures.items)
    (placed_same _ g.met.K.Eq.laws _ c.self.inside.table wide (keys_of c.self.inside.pairs.items) c.self.invariant told.indices told.same)

-- The entry is added.
pub invariant_of-self-2 : goal.invariant_of-self-2
invariant_of-self-2 g c =
    let hash = λ (k : g.row.K.Denot). key_hash g.S.BuildHasher g.S.Hasher.Hasher c.self.inside.hash_builder (g.K.Hash.hash_input k) in
    let same = g.K.PartialEq.eq in
    let es = c.self.inside.pairs.items in
    let wide = c.reserve-2.new.self in
    let after = c.add.new.self in
    let told = c.in-Ok-reserve-2.ensures in
    let none = subst (λ (l : List (g.row.K.Denot × g.row.B.Denot)). position (same c.args.key) (keys_of l) ≡ None) c.as_slice-pairs.ensures.value c.in-Err.ensures.absent in
    let last = c.push_reserved.ensures.items ∙ ap (λ l. l ++ (c.args.key, c.in-Ok-make.made.0) ∷ []) c.in-Ok-reserve.ensures.items in
    let before = placed_same _ g.met.K.Eq.laws hash c.self.inside.table wide (keys_of es) c.self.invariant told.indices told.same in
    subst (λ (l : List (g.row.K.Denot × g.row.B.Denot)). IsPlaced same hash after (keys_of l)) (sym last)
    (subst (IsPlaced same hash after) (sym (keys_push es (c.args.key, c.in-Ok-make.made.0)))
    (placed_put _ g.met.K.Eq.laws hash wide after (keys_of es) c.args.key c.in-Err.missing.hash c.add.result before c.in-Err.ensures.hashed
    c.add.ensures.index c.add.ensures.indices c.add.ensures.adds none))

pub returns-clause-added : goal.returns-clause-added
returns-clause-added g c absent =
    let same = g.K.PartialEq.eq in
    let es = c.args.self.now in
    let v = c.in-Ok-make.made.0 in
    let last : c.push_reserved.new.self.items ≡ es ++ (c.args.key, v) ∷ [] =
    c.push_reserved.ensures.items ∙ ap (λ l. l ++ (c.args.key, v) ∷ []) (c.in-Ok-reserve.ensures.items ∙ c.self.view_is) in
    let none = subst (λ (l : List (g.row.K.Denot × g.row.B.Denot)). position (same c.args.key) (keys_of l) ≡ None) (c.as_slice-pairs.ensures.value ∙ c.self.view_is) c.in-Err.ensures.absent in
    let adds = appended same g.met.K.Eq.laws es c.args.key v none in
    (v, (_, c.in-Ok-make.ensures, refl), subst (λ l. AddsNew same es l c.args.key v) (sym last) adds, last)
