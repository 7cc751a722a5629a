-- Where a test finds an item of a list, and what an insertion of a new one leaves.
use Rattle.std.proofs.Common.{◌≡◌, ℕ, ◌<◌, Bool, true, false, true≢false, is_some, is_none, refl, sym, subst, List, [], ◌∷◌, ◌++◌, length, position, find, slice_get, ap, ◌∙◌, arith, Option, None, Some, MatchOption, if◌then◌else◌}
use Rattle.std.proofs.lemmas.Grind.{common_steps}
use Rattle.std.proofs.lemmas.List.{length-append}
use Rattle.std.proofs.lemmas.List.Folds.{find_at, list_any_at, list_any_none, position_or_len_push}
use Rattle.std.proofs.lemmas.List.Quantifiers.{position-Some}
use Rattle.std.proofs.lemmas.List.Sums.{fails_before_first, prefix_len-le-length}
use Rattle.std.proofs.lemmas.Option.{slice_get_past}
use Rattle.std.specs.List.{list_any, position_or_len}
use Rattle.std.specs.Map.{keys_of, lookup}
use Rattle.indexmap.specs.IndexSet.{insert_key}
use Rattle.indexmap.proofs.MapLemmas.{some_index}
use Rattle.elsa_tables.specs.Insertions.{index_of, InsertedNew}

-- where nothing passes, the count of those before the first is the length
pub none_found : {X : Type 0} (t : X → Bool) (xs : List X) → position t xs ≡ None → position_or_len t xs ≡ length xs
none_found t xs e = grind (arith, common_steps, prefix_len-le-length)

-- no item passes a test that finds none
pub none_passes : {X : Type 0} (t : X → Bool) (xs : List X) → position t xs ≡ None → list_any t xs ≡ false
none_passes t xs e = list_any_none t xs (λ k d l. fails_before_first t xs k d (omega (arith, none_found t xs e)))

-- a new value goes last
pub new_value_goes_last : {T : Type 0} (eq : T → T → Bool) (ks : List T) (k : T) → position (eq k) ks ≡ None → insert_key eq ks k ≡ ks ++ k ∷ []
new_value_goes_last eq ks k e = ap (λ b. if b then ks else ks ++ k ∷ []) (none_passes (eq k) ks e)

-- the value that a test finds is at the index that it finds
pub found_at : {X : Type 0} (t : X → Bool) (xs : List X) (i : ℕ) → position t xs ≡ Some i → find t xs ≡ slice_get xs i
found_at {X} t xs i e = find_at t xs ∙ ap (slice_get xs) at
  where
    at : position_or_len t xs ≡ i
    at = grind (arith, common_steps, e)

-- and lies within the list
pub found_within : {X : Type 0} (t : X → Bool) (xs : List X) (i : ℕ) → position t xs ≡ Some i → i < length xs
found_within t xs i e = grind (arith, common_steps, e)

-- where a test finds no index, it finds nothing
pub found_nowhere : {X : Type 0} (t : X → Bool) (xs : List X) → position t xs ≡ None → find t xs ≡ None
found_nowhere t xs e = find_at t xs ∙ ap (slice_get xs) (none_found t xs e) ∙ slice_get_past xs (length xs) (omega arith)

-- what is not there is None
pub none_of : {X : Type 0} (o : Option X) → is_some o ≡ false → o ≡ None
none_of None h = refl
none_of (Some x) h = absurd (true≢false h)

-- a last item is found where no earlier one passes
pub index_of_last : {X : Type 0} (t : X → Bool) (xs : List X) (y : X) → position t xs ≡ None → t y ≡ true → position t (xs ++ y ∷ []) ≡ Some (length xs)
index_of_last t xs y none passes = let e = none_found t xs none in grind (arith, common_steps, position_or_len_push, length-append)

-- a key without a value has no index
pub no_index : {K B : Type 0} (eq : K → K → Bool) (es : List (K × B)) (k : K) → lookup (eq k) es ≡ None → index_of eq es k ≡ None
no_index eq es k none = none_of (position (eq k) (keys_of es)) (some_index (eq k) es ∙ ap is_some none)

-- and a key without an index has no value
pub no_value : {K B : Type 0} (eq : K → K → Bool) (es : List (K × B)) (k : K) → index_of eq es k ≡ None → lookup (eq k) es ≡ None
no_value eq es k none = none_of (lookup (eq k) es) (sym (some_index (eq k) es) ∙ ap is_some none)

-- and a key with an index has one
pub value_there : {K B : Type 0} (eq : K → K → Bool) (es : List (K × B)) (k : K) (j : ℕ) → index_of eq es k ≡ Some j → (x : B) × (lookup (eq k) es ≡ Some x)
value_there {B = B} eq es k j at = by (lookup (eq k) es) refl
  where
    by : (o : Option B) → lookup (eq k) es ≡ o → (x : B) × (lookup (eq k) es ≡ Some x)
    by None none = absurd (true≢false (sym (ap is_some at) ∙ some_index (eq k) es ∙ ap is_some none))
    by (Some x) is = (x, is)

-- a pair with a new key goes last
pub new_pair_goes_last : {K B V T : Type 0} (eq : K → K → Bool) (target : V → T) (shown : B → T) (es : List (K × B)) (k : K) (v : V) (i : ℕ) (b : B) (fs : List (K × B))
    → lookup (eq k) es ≡ None → i ≡ length es → shown b ≡ target v → fs ≡ es ++ (k, b) ∷ [] → InsertedNew eq target shown es k v i b true fs
new_pair_goes_last eq target shown es k v i b fs none at is left =
    let gone = sym (no_index eq es k none) in (
      subst (λ o. MatchOption o ((i ≡ length es) × (shown b ≡ target v) × (fs ≡ es ++ (k, b) ∷ [])) (λ j. (i ≡ j) × (lookup (eq k) es ≡ Some b) × (fs ≡ es))) gone (at, is, left),
      ap is_none gone,
    )

-- some item passes a test that finds an index
pub some_passes : {X : Type 0} (t : X → Bool) (xs : List X) (i : ℕ) → position t xs ≡ Some i → list_any t xs ≡ true
some_passes t [] i e = absurd (true≢false (sym (ap is_some e)))
some_passes t (x ∷ xs) i e =
    let p = position-Some t (x ∷ xs) i x e in
    list_any_at t (x ∷ xs) i x p.0 p.1
