-- A search that compares one key after the other.
use Rattle.std.proofs.Common.{◌≡◌, ℕ, ◌+◌, ◌<◌, Bool, true, false, List, [], ◌∷◌, cond, length, get_or, position, map, suc, slice_get, None, Some, refl, ap, sym, ◌∙◌, inl, inr, arith}
use Rattle.std.proofs.lemmas.Bool.{cases_lt, lt-ltb, le-ltb}
use Rattle.std.proofs.lemmas.List.Sums.{position_or_len_is}
use Rattle.std.proofs.lemmas.Option.{get_or_from_slice_get, same_Some, slice_get-get_or, slice_get_within}
use Rattle.std.specs.Bool.{nat_lt}
use Rattle.std.specs.List.{position_or_len}

-- No key before the index `i` passes the test.
abbrev pub NoneBefore : {K : Type 0} → (K → Bool) → List K → ℕ → Type 0
NoneBefore {K} test keys i = (j : ℕ) (k : K) → j < i → slice_get keys j ≡ Some k → test k ≡ false

module _ {K : Type 0} (test : K → Bool) where
  -- The first key that passes.
  pub scan_here : (keys : List K) (i : ℕ) (k : K) → NoneBefore test keys i → slice_get keys i ≡ Some k → test k ≡ true → position test keys ≡ Some i
  scan_here keys i k none at passes =
      let within = slice_get_within keys i k at in
      let e : position_or_len test keys ≡ i = position_or_len_is test keys i k (omega (arith, within)) (λ j lt. none j (get_or keys j k) lt (slice_get-get_or keys j k (omega (arith, lt, within)))) (λ _. ap test (get_or_from_slice_get keys i k k at) ∙ passes) in
      ap (λ n. cond (nat_lt n (length keys)) (Some n) None) e ∙ ap (λ b. cond b (Some i) None) (lt-ltb i _ within)

  -- No key passes.
  pub scan_end : (keys : List K) (i : ℕ) → NoneBefore test keys i → length keys ≡ i → position test keys ≡ None
  scan_end [] i none all = refl
  scan_end (x ∷ xs) i none all =
      let keys = x ∷ xs in
      let e : position_or_len test keys ≡ length keys = position_or_len_is test keys (length keys) x (omega arith) (λ j lt. none j (get_or keys j x) (omega (arith, lt, all)) (slice_get-get_or keys j x lt)) (λ lt. absurd (omega (arith, lt))) in
      ap (λ n. cond (nat_lt n (length keys)) (Some n) None) e ∙ ap (λ b. cond b (Some (length keys)) None) (le-ltb (length keys) (length keys) (omega arith))

  -- Another key doesn't pass.
  pub scan_next : (keys : List K) (i : ℕ) (k : K) → NoneBefore test keys i → slice_get keys i ≡ Some k → test k ≡ false → NoneBefore test keys (i + 1)
  scan_next keys i k none at fails j y lt there = elim (cases_lt j i) [
    | inl before ↦ none j y before there
    | inr past ↦
        let same : j ≡ i = omega (arith, lt, past) in
        ap test (same_Some y k (sym there ∙ (ap (slice_get keys) same ∙ at))) ∙ fails
  ]

-- The number of keys is that of the entries.
pub length_keys : {X Y : Type 0} (f : X → Y) (xs : List X) → length (map f xs) ≡ length xs
length_keys f [] = refl
length_keys f (x ∷ xs) = ap suc (length_keys f xs)
