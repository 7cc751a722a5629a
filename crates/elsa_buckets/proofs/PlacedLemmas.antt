-- What the hash table's indices show of the keys, and what an insertion leaves.
use Rattle.std.proofs.Common.{◌≡◌, ℕ, ◌+◌, ◌<◌, Bool, true, false, List, [], ◌∷◌, ◌++◌, cond, length, get_or, position, slice_get, None, Some, refl, ap, subst, sym, ◌∙◌, inl, inr, arith}
use Rattle.std.proofs.lemmas.Bool.{both_ways, cases_Bool, cases_lt, lt-ltb, le-ltb}
use Rattle.std.proofs.lemmas.List.{length-append, get_or_append_left, get_or_push}
use Rattle.std.proofs.lemmas.List.Folds.{Any-from_list_any}
use Rattle.std.proofs.lemmas.List.Sums.{fails_before_first, position_or_len_is}
use Rattle.std.proofs.lemmas.Option.{none-some, slice_get_cases, slice_get_within, slice_get-get_or, get_or_from_slice_get}
use Rattle.std.proofs.lemmas.Map.Keys.{IsDistinct-push, apart_from_distinct}
use Rattle.std.specs.Cmp.{IsEquivalence}
use Rattle.std.specs.Bool.{nat_lt}
use Rattle.std.specs.List.{IsDistinct, list_any, position_or_len}
use Rattle.std.specs.Map.{IsKeyTest}
use Rattle.elsa_buckets.specs.Table.{Entries, hashes, indices, Has, HasSame, AddsIndex}
use Rattle.elsa_buckets.specs.Placed.{IsPlaced}
use Rattle.elsa_buckets.proofs.GroupLemmas.{split_last}

-- A table with the same hashes has the same indices.
pub has_same : (before after : Entries) (h p : ℕ) → HasSame before after → Has before h p → Has after h p
has_same before after h p same has = subst (λ l. slice_get l p ≡ Some h) (sym same) has

-- An addition adds an index, and keeps the earlier ones.
module _ (before after : Entries) (hash index : ℕ) (adds : AddsIndex before hash index after) where
  abbrev old : List ℕ
  old = hashes before

  pub has_kept : (h p : ℕ) → Has before h p → Has after h p
  has_kept h p has =
      let lt = slice_get_within old p h has in
      subst (λ l. slice_get l p ≡ Some h) (sym adds.1)
      (slice_get-get_or (old ++ hash ∷ []) p h (omega (arith, lt, length-append old (hash ∷ [])))
      ∙ ap Some (get_or_append_left old (hash ∷ []) h p lt ∙ get_or_from_slice_get old p h h has))

  pub has_added : Has after hash index
  has_added =
      subst (λ l. slice_get l index ≡ Some hash) (sym adds.1)
      (slice_get-get_or (old ++ hash ∷ []) index hash (omega (arith, adds.0, length-append old (hash ∷ []))) ∙ ap Some (get_or_push old hash hash index (sym adds.0)))

module _ {K : Type 0} (test : K → Bool) (keys : List K) where
  -- The first index is that of `position`.
  is_at : (i : ℕ) → position_or_len test keys ≡ i → i < length keys → position test keys ≡ Some i
  is_at i e within = ap (λ n. cond (nat_lt n (length keys)) (Some n) None) e ∙ ap (λ b. cond b (Some i) None) (lt-ltb i _ within)

  is_nowhere : position_or_len test keys ≡ length keys → position test keys ≡ None
  is_nowhere e = ap (λ n. cond (nat_lt n (length keys)) (Some n) None) e ∙ ap (λ b. cond b (Some (length keys)) None) (le-ltb (length keys) (length keys) (omega arith))

  -- If no key is found, none passes the test.
  none_passes : position test keys ≡ None → list_any test keys ≡ false
  none_passes none = elim (cases_Bool (list_any test keys)) [
    | inl pass ↦ elim (cases_lt (position_or_len test keys) (length keys)) [
      | inl within ↦ absurd (none-some _ (sym none ∙ is_at (position_or_len test keys) refl within))
      | inr past ↦
          let found = Any-from_list_any test keys pass in
          let k = found.0 in let x = found.1 in
          absurd (both_ways (test x) (ap test (sym found.3) ∙ fails_before_first test keys k x (omega (arith, found.2, past))) found.4)
    ]
    | inr fail ↦ fail
  ]

module _ {K : Type 0} (same : K → K → Bool) (laws : IsEquivalence same) (hash : K → ℕ) where
  -- The accepted index is the index of the first key that the test finds.
  pub found_here : (test : K → Bool) → IsKeyTest same test → (table : Entries) (keys : List K) (i : ℕ) (key : K) → IsPlaced same hash table keys → slice_get keys i ≡ Some key → test key ≡ true
      → position test keys ≡ Some i
  found_here test one table keys i key placed at passes =
      let within = slice_get_within keys i key at in
      let here : get_or keys i key ≡ key = get_or_from_slice_get keys i key key at in
      is_at test keys i
      (position_or_len_is test keys i key (omega (arith, within))
      (λ j lt. elim (cases_Bool (test (get_or keys j key))) [
        | inl pass ↦ absurd (both_ways (test key) (one (get_or keys j key) key pass ∙ (ap (same (get_or keys j key)) (sym here) ∙ apart_from_distinct same keys j i key placed.distinct lt within)) passes)
        | inr fail ↦ fail
      ])
      (λ _. ap test here ∙ passes))
      within

  -- The accepted index is one of the table.
  pub found_at : (test : K → Bool) → IsKeyTest same test → (table : Entries) (keys : List K) (i : ℕ) → IsPlaced same hash table keys → i < indices table → ((k : K) → slice_get keys i ≡ Some k → test k ≡ true)
      → position test keys ≡ Some i
  found_at test one table keys i placed within passes = elim ((slice_get_cases keys i).1) [
    | inl here ↦ found_here test one table keys i here.0 placed here.2 (passes here.0 here.2)
    | inr past ↦ absurd (omega (arith, past.0, within, placed.counted))
  ]

  -- If the search rejected each index with the hash, the test finds no key.
  pub found_nowhere : (test : K → Bool) (table : Entries) (keys : List K) (h : ℕ) → IsPlaced same hash table keys → ((k : K) → test k ≡ true → h ≡ hash k)
      → ((p : ℕ) (k : K) → Has table h p → slice_get keys p ≡ Some k → test k ≡ false) → position test keys ≡ None
  found_nowhere test table [] h placed agrees rejected = refl
  found_nowhere test table (x ∷ xs) h placed agrees rejected =
      let keys = x ∷ xs in
      is_nowhere test keys
      (position_or_len_is test keys (length keys) x (omega arith)
      (λ j lt.
      let k = get_or keys j x in
      let at = slice_get-get_or keys j x lt in
      elim (cases_Bool (test k)) [
        | inl pass ↦ rejected j k (subst (λ n. Has table n j) (sym (agrees k pass)) (placed.entered j k at)) at
        | inr fail ↦ fail
      ])
      (λ lt. absurd (omega (arith, lt))))

  -- The table has the index of a new last key.
  pub placed_put : (before after : Entries) (keys : List K) (key : K) (h index : ℕ) → IsPlaced same hash before keys → h ≡ hash key → index ≡ indices before
      → indices after ≡ indices before + 1 → AddsIndex before h index after → position (same key) keys ≡ None → IsPlaced same hash after (keys ++ key ∷ [])
  placed_put before after keys key h index old hashed placed more adds none = record {
    distinct = IsDistinct-push laws keys key old.distinct (none_passes (same key) keys none);
    counted = omega (arith, more, old.counted, length-append keys (key ∷ []));
    entered = λ i k there. elim (split_last keys key i k there) [
      | inl earlier ↦ has_kept before after h index adds (hash k) i (old.entered i k earlier)
      | inr last ↦
          let at : index ≡ i = omega (arith, placed, old.counted, last.0) in
          subst (λ n. Has after (hash k) n) at (subst (λ n. Has after n index) (hashed ∙ ap hash last.1) (has_added before after h index adds))
    ];
  }

  -- A table with the same indices is for the same keys.
  pub placed_same : (before after : Entries) (keys : List K) → IsPlaced same hash before keys → indices after ≡ indices before → HasSame before after → IsPlaced same hash after keys
  placed_same before after keys old count stays = record {
    distinct = old.distinct;
    counted = count ∙ old.counted;
    entered = λ i k there. has_same before after (hash k) i stays (old.entered i k there);
  }

  -- A table without indices is for no keys.
  pub placed_none : (table : Entries) → indices table ≡ 0 → IsPlaced same hash table []
  unfolding IsDistinct
  placed_none table none = record {
    distinct = tt;
    counted = none;
    entered = λ i k there. absurd (omega (arith, slice_get_within {A = K} [] i k there));
  }
