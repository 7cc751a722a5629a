use Rattle.std.proofs.Common.{◌≡◌, ◌++◌, ◌∷◌, [], List, None, Some, IsTrue, length, position, refl, ap, subst, sym, ◌∙◌, arith}
use Rattle.std.proofs.lemmas.List.{length-map}
use Rattle.std.specs.Map.{keys_of, lookup}
use Rattle.std_collections.proofs.HashLookup.{keys_push}
use Rattle.elsa_tables.specs.Tables.{AddsNew}
use Rattle.elsa_buckets.specs.Placed.{key_hash, IsPlaced}
use Rattle.elsa_buckets.proofs.AppendLemmas.{appended}
use Rattle.elsa_buckets.proofs.PlacedLemmas.{placed_put, placed_same}
use Rattle.elsa_buckets.proofs.append_map.AppendMap.insert_by.Goals as goal

-- The query finds the keys that equal the one that was made. So this one is absent too, and has the hash of the query.
pub invariant_of-self-2 : goal.invariant_of-self-2
invariant_of-self-2 g c =
    let (key, value) = c.in-Ok-make.entry in
    let hash = λ (k : g.row.K.Denot). key_hash g.S.BuildHasher g.S.Hasher.Hasher c.self.inside.hash_builder (g.K.Hash.hash_input k) in
    let same = g.K.PartialEq.eq in
    let finds = g.Q.Query.finds c.args.query in
    let es = c.self.inside.pairs.items in
    let wide = c.reserve-2.new.self in
    let after = c.add-index.new.self in
    let told = c.in-Ok-reserve-2.ensures in
    let made : IsTrue (finds key) = c.requires.found key value c.in-Ok-make.ensures in
    let alike : finds ≡ same key = λ i other. g.met.Q.Query.respects_eq c.args.query key other made i in
    let none : position (same key) (keys_of es) ≡ None =
    ap (λ test. position test (keys_of es)) (sym alike)
    ∙ subst (λ (l : List (g.row.K.Denot × g.row.B.Denot)). position finds (keys_of l) ≡ None) c.as_slice-pairs.ensures.value c.in-Err.ensures.absent in
    let hashed = c.in-Err.ensures.hashed ∙ ap (key_hash g.S.BuildHasher g.S.Hasher.Hasher c.self.inside.hash_builder) (g.met.Q.Query.respects_hash c.args.query key made) in
    let last = c.push_reserved.ensures.items ∙ ap (λ l. l ++ (key, value) ∷ []) c.in-Ok-reserve.ensures.items in
    let before = placed_same _ g.met.K.Eq.laws hash c.self.inside.table wide (keys_of es) c.self.invariant told.indices told.same in
    subst (λ (l : List (g.row.K.Denot × g.row.B.Denot)). IsPlaced same hash after (keys_of l)) (sym last)
    (subst (IsPlaced same hash after) (sym (keys_push es (key, value)))
    (placed_put _ g.met.K.Eq.laws hash wide after (keys_of es) key c.in-Err.absent.hash c.add-index.result before hashed
    c.add-index.ensures.index c.add-index.ensures.indices c.add-index.ensures.adds none))

pub returns-clause-added : goal.returns-clause-added
returns-clause-added g c absent =
    let (key, value) = c.in-Ok-make.entry in
    let same = g.K.PartialEq.eq in
    let finds = g.Q.Query.finds c.args.query in
    let es = c.args.self.now in
    let made : IsTrue (finds key) = c.requires.found key value c.in-Ok-make.ensures in
    let alike : finds ≡ same key = λ i other. g.met.Q.Query.respects_eq c.args.query key other made i in
    let last : c.push_reserved.new.self.items ≡ es ++ (key, value) ∷ [] =
    c.push_reserved.ensures.items ∙ ap (λ l. l ++ (key, value) ∷ []) (c.in-Ok-reserve.ensures.items ∙ c.self.view_is) in
    let none : position (same key) (keys_of es) ≡ None =
    ap (λ test. position test (keys_of es)) (sym alike)
    ∙ subst (λ (l : List (g.row.K.Denot × g.row.B.Denot)). position finds (keys_of l) ≡ None) (c.as_slice-pairs.ensures.value ∙ c.self.view_is) c.in-Err.ensures.absent in
    let next : c.add-index.result ≡ length es =
    omega (arith, c.add-index.ensures.index, c.in-Ok-reserve-2.ensures.indices, c.self.invariant.counted, length-map c.self.inside.pairs.items (λ (e : g.row.K.Denot × g.row.B.Denot). e.0), ap length c.self.view_is) in
    (key, c.in-Ok-make.ensures, refl, next, subst (λ l. AddsNew same es l key value) (sym last) (appended same g.met.K.Eq.laws es key value none), last)

pub returns-clause-value_after : goal.returns-clause-value_after
unfolding returns-clause-added
returns-clause-value_after g c =
    let (key, value) = c.in-Ok-make.entry in
    let same = g.K.PartialEq.eq in
    let finds = g.Q.Query.finds c.args.query in
    let made : IsTrue (finds key) = c.requires.found key value c.in-Ok-make.ensures in
    let alike : finds ≡ same key = λ i other. g.met.Q.Query.respects_eq c.args.query key other made i in
    let absent = subst (λ l. lookup finds l ≡ None) (c.as_slice-pairs.ensures.value ∙ c.self.view_is) c.in-Err.ensures.no_value in
    let (_, _, _, _, adds, _) = returns-clause-added g c absent in
    ap (λ test. lookup test c.push_reserved.new.self.items) alike ∙ adds.0
