-- What the indices of a map's table show of its entries.
use Rattle.std.proofs.Common.{◌≡◌, ℕ, ◌<◌, ◌++◌, ◌∷◌, [], Bool, true, List, length, get_or, position, slice_get, None, Some, ap, subst, sym, ◌∙◌, inl, inr, arith}
use Rattle.std.proofs.lemmas.List.{length-append, length-map, get_or-map}
use Rattle.std.proofs.lemmas.List.Elements.{AllZip-get_or, length_all_zip}
use Rattle.std.proofs.lemmas.Option.{none-some, same_Some, slice_get_cases, slice_get_within, slice_get-get_or, get_or_from_slice_get}
use Rattle.std.proofs.lemmas.Map.Keys.{IsDistinct-from_apart, apart_from_distinct}
use Rattle.std.specs.Cmp.{IsEquivalence}
use Rattle.std.specs.Map.{keys_of, lookup, lookup_key}
use Rattle.std.specs.Option.{option_map}
use Rattle.std_collections.proofs.HashLookup.{Updated-push, get_key, get_value}
use Rattle.indexmap.proofs.MapLemmas.{Found-position, Missing-position}
use Rattle.elsa_tables.specs.Insertions.{IsCloneOf}
use Rattle.elsa_tables.specs.Tables.{AddsNew}
use Rattle.elsa_buckets.specs.Table.{Entries, Has}
use Rattle.elsa_buckets.specs.Placed.{IsPlaced}

-- What a comparison of the keys of pairs, by index, says of each key.
pub compared_keys : {K X : Type 0} (test : K → Bool) (es : List (K × X)) (i : ℕ) (b : Bool) (k : K) → slice_get (keys_of es) i ≡ Some k → ((d : K × X) → b ≡ test (get_or es i d).0) → b ≡ test k
compared_keys test es i b k at compared = elim ((slice_get_cases es i).1) [
  | inl h ↦
      let key = same_Some h.0.0 k (sym (get_key es i ∙ ap (option_map (λ e. e.0)) h.2) ∙ at) in
      compared h.0 ∙ (ap (λ e. test e.0) h.3 ∙ ap test key)
  | inr h ↦ absurd (none-some k (sym (get_key es i ∙ ap (option_map (λ e. e.0)) h.1) ∙ at))
]

-- The value at the index of a key.
pub value_there : {K X : Type 0} (test : K → Bool) (es : List (K × X)) (i : ℕ) → position test (keys_of es) ≡ Some i → (d : K × X) → lookup test es ≡ Some (get_or es i d).1
value_there {K} {X} test es i at d =
    let f = Found-position test es i at in
    f.value ∙ get_value es i ∙ ap (option_map (λ (e : K × X). e.1)) (slice_get-get_or es i d f.within)

-- The key at the index of a key.
pub key_there : {K X : Type 0} (test : K → Bool) (es : List (K × X)) (i : ℕ) → position test (keys_of es) ≡ Some i → (d : K × X) → lookup_key test es ≡ Some (get_or es i d).0
key_there {K} {X} test es i at d =
    let f = Found-position test es i at in
    f.key ∙ get_key es i ∙ ap (option_map (λ (e : K × X). e.0)) (slice_get-get_or es i d f.within)

-- What an entry adds that is appended for an absent key.
pub appended : {K X : Type 0} (same : K → K → Bool) → IsEquivalence same → (es : List (K × X)) (key : K) (value : X) → position (same key) (keys_of es) ≡ None → AddsNew same es (es ++ (key, value) ∷ []) key value
appended same laws es key value none =
    let updated = Updated-push same laws es key value (Missing-position (same key) es none).absent in
    (updated.1, updated.0, omega (arith, length-append es ((key, value) ∷ [])))

-- The table of keys is for keys that equal them, index by index.
placed_alike : {K : Type 0} (same : K → K → Bool) (laws : IsEquivalence same) (hash : K → ℕ) (table : Entries) (ks cs : List K) → ((x y : K) → same x y ≡ true → hash x ≡ hash y) → IsPlaced same hash table ks → length ks ≡ length cs
    → ((i : ℕ) (d : K) → i < length ks → same (get_or ks i d) (get_or cs i d) ≡ true) → IsPlaced same hash table cs
placed_alike same laws hash table ks cs respects placed counted alike = record {
  distinct = IsDistinct-from_apart same cs (λ i j d lt within.
      let j_in : j < length ks = omega (arith, within, counted) in
      let a = alike i d (omega (arith, lt, j_in)) in
      let b = alike j d j_in in
      let ei = get_or ks i d in
      let ej = get_or ks j d in
      let ci = get_or cs i d in
      let cj = get_or cs j d in
      let moved : same ci cj ≡ same ei ej = sym (laws.congr ei ci cj a) ∙ laws.symm ei cj ∙ sym (laws.congr ej cj ei b) ∙ laws.symm ej ei in
      moved ∙ apart_from_distinct same ks i j d placed.distinct lt j_in);
  counted = placed.counted ∙ counted;
  entered = λ i c there.
      let lt : i < length ks = omega (arith, slice_get_within cs i c there, counted) in
      let agrees : hash (get_or ks i c) ≡ hash c = respects _ _ (alike i c lt) ∙ ap hash (get_or_from_slice_get cs i c c there) in
      subst (λ n. Has table n i) agrees (placed.entered i (get_or ks i c) (slice_get-get_or ks i c lt));
}

-- The table of the entries is for their clones.
pub placed_clones : {K X : Type 0} (same : K → K → Bool) (laws : IsEquivalence same) (hash : K → ℕ) (is_clone : K → K → Type 0) (table : Entries) (es cs : List (K × X))
    → ((x y : K) → same x y ≡ true → hash x ≡ hash y) → IsPlaced same hash table (keys_of es) → IsCloneOf same is_clone es cs → IsPlaced same hash table (keys_of cs)
placed_clones {K} {X} same laws hash is_clone table es cs respects placed clones =
    let R = λ (p q : K × X). is_clone p.0 q.0 × (same p.0 q.0 ≡ true) × (q.1 ≡ p.1) in
    let key = λ (e : K × X). e.0 in
    let counted : length es ≡ length cs = length_all_zip R es cs clones in
    let le = length-map es key in
    let lc = length-map cs key in
    placed_alike same laws hash table (keys_of es) (keys_of cs) respects placed (omega (arith, counted, le, lc))
    (λ i d lt. elim ((slice_get_cases es i).1) [
      | inl h ↦
          let x = h.0 in
          let ke = get_or-map key es i x d h.1 in
          let kc = get_or-map key cs i x d (omega (arith, h.1, counted)) in
          ap (λ k. same k (get_or (keys_of cs) i d)) ke ∙ (ap (same (key (get_or es i x))) kc ∙ (AllZip-get_or R es cs i x x clones h.1).1)
      | inr h ↦ absurd (omega (arith, h.0, lt, le))
    ])
