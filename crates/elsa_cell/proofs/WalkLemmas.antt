-- The walk over the entries in the order of their keys.
use Rattle.std.proofs.Common.{◌≡◌, ℕ, zero, suc, ◌+◌, ◌<◌, List, [], ◌∷◌, ◌++◌, length, map, drop, get_or, slice_get, Option, None, Some, refl, ap, subst, sym, ◌∙◌, inl, inr, arith, append_assoc}
use Rattle.std.proofs.lemmas.Bool.{cases_lt}
use Rattle.std.proofs.lemmas.List.{length-append, length-map}
use Rattle.std.proofs.lemmas.List.Sorted.{IsPermutation-map, IsPermutation-refl, length_permutation}
use Rattle.std.proofs.lemmas.Option.{none-some, same_Some, slice_get_cases, slice_get_within, slice_get-get_or}
use Rattle.std.proofs.Math.Seq.{get_or-append_seam}
use Rattle.std.specs.declared.cmp.Ordering.{Ordering}
use Rattle.std.specs.declared.cmp.Ordering.TheVariants.{Less}
use Rattle.std.specs.Cmp.{IsTotalOrder, tied_itself}
use Rattle.std.specs.List.{AllByRecursion, range_with_len}
use Rattle.std.specs.List.Sorted.{IsPermutation, IsStrictlySortedBy}
use Rattle.std.specs.Option.{option_map}
use Rattle.std.specs.Ordering.{is_gt, is_lt}
use Rattle.elsa_slots.proofs.ListLemmas.Walks.{first_of_rest}
use Rattle.elsa_cell.specs.declared.map.Entry.{Entry}
use Rattle.elsa_cell.specs.Entries.{key_of}
use Rattle.elsa_cell.specs.Ordered.{IsGreatest, IsInOrder, IsLeast, IsOrdered, before_rest, picked}
use Rattle.elsa_cell.specs.Queries.{turned_less}
use Rattle.elsa_cell.proofs.EntryLemmas.{get_map}
use Rattle.elsa_cell.proofs.OrderLemmas.{counted, ranked, within}

-- What is below a bound stays so, of the indices that are left.
pub low_left : (m n : ℕ) (is : List ℕ) → ((r i : ℕ) → slice_get is r ≡ Some i → i < m) → (r i : ℕ) → slice_get (drop n is) r ≡ Some i → i < m
low_left m zero is low = low
low_left m (suc n) [] low = low
low_left m (suc n) (j ∷ is) low = low_left m n is (λ r i at. low (suc r) i at)

module _ {X : Type 0} where
  -- The items at indices of the list.
  picked_map : (xs : List X) (d : X) (is : List ℕ) → ((r i : ℕ) → slice_get is r ≡ Some i → i < length xs) → picked xs is ≡ map (λ i. get_or xs i d) is
  picked_map xs d [] low = refl
  picked_map xs d (i ∷ is) low =
      let at = slice_get-get_or xs i d (low 0 i refl) in
      ap (λ o. before_rest o (picked xs is)) at ∙ ap (λ l. get_or xs i d ∷ l) (picked_map xs d is (λ r j there. low (suc r) j there))

  -- At all indices, in order.
  each_after : (before xs : List X) (d : X) → map (λ i. get_or (before ++ xs) i d) (range_with_len (length before) (length xs)) ≡ xs
  each_after before [] d = refl
  each_after before (x ∷ xs) d =
      let joined = append_assoc before (x ∷ []) xs in
      let longer : length (before ++ x ∷ []) ≡ length before + 1 = length-append before (x ∷ []) in
      let rest = subst (λ n. map (λ i. get_or ((before ++ x ∷ []) ++ xs) i d) (range_with_len n (length xs)) ≡ xs) longer (each_after (before ++ x ∷ []) xs d) in
      let same = subst (λ l. map (λ i. get_or l i d) (range_with_len (length before + 1) (length xs)) ≡ xs) joined rest in
      ap (λ y. y ∷ map (λ i. get_or (before ++ x ∷ xs) i d) (range_with_len (length before + 1) (length xs))) (get_or-append_seam before x xs d) ∙ ap (λ l. x ∷ l) same

  one_more : (xs : List X) (i n : ℕ) (rest : List X) (o : Option X) → o ≡ slice_get xs i → i < length xs → length rest ≡ n → length (before_rest o rest) ≡ suc n
  one_more xs i n rest None e w later = elim ((slice_get_cases xs i).1) [
    | inl h ↦ absurd (none-some h.0 (e ∙ h.2))
    | inr h ↦ absurd (let past = h.0 in let q : ⊥ = omega (arith, w, past) in q)
  ]
  one_more xs i n rest (Some x) e w later = ap suc later

  -- None is left out.
  pub length_picked : (xs : List X) (is : List ℕ) → ((r i : ℕ) → slice_get is r ≡ Some i → i < length xs) → length (picked xs is) ≡ length is
  length_picked xs [] low = refl
  length_picked xs (i ∷ is) low = one_more xs i (length is) (picked xs is) (slice_get xs i) refl (low 0 i refl) (length_picked xs is (λ r j there. low (suc r) j there))

  -- The first of the items that are left.
  pub next_picked : (xs : List X) (is : List ℕ) (n i : ℕ) (x : X) → slice_get is n ≡ Some i → slice_get xs i ≡ Some x → picked xs (drop n is) ≡ x ∷ picked xs (drop (n + 1) is)
  next_picked xs is n i x at there = ap (picked xs) (first_of_rest is n i at) ∙ ap (λ o. before_rest o (picked xs (drop (n + 1) is))) there

module _ {K V : Type 0} (cmp : K → K → Ordering) (es : List (Entry K V)) where
  -- Each entry that is picked is above a key.
  one_above : (k : K) (i : ℕ) (rest : List (Entry K V)) (o : Option (Entry K V)) → o ≡ slice_get es i → ((e : Entry K V) → slice_get es i ≡ Some e → cmp k (key_of e) ≡ Less) → AllByRecursion (λ y. cmp k y ≡ Less) (map key_of rest)
      → AllByRecursion (λ y. cmp k y ≡ Less) (map key_of (before_rest o rest))
  one_above k i rest None e above later = later
  one_above k i rest (Some f) e above later = (above f (sym e), later)

  all_above : (k : K) (is : List ℕ) → ((r i : ℕ) (e : Entry K V) → slice_get is r ≡ Some i → slice_get es i ≡ Some e → cmp k (key_of e) ≡ Less) → AllByRecursion (λ y. cmp k y ≡ Less) (map key_of (picked es is))
  all_above k [] above = tt
  all_above k (i ∷ is) above = one_above k i (picked es is) (slice_get es i) refl (λ e at. above 0 i e refl at) (all_above k is (λ r j f there is_there. above (suc r) j f there is_there))

  one_sorted : (i : ℕ) (rest : List (Entry K V)) (o : Option (Entry K V)) → o ≡ slice_get es i → ((e : Entry K V) → slice_get es i ≡ Some e → AllByRecursion (λ y. cmp (key_of e) y ≡ Less) (map key_of rest)) → IsStrictlySortedBy cmp (map key_of rest)
      → IsStrictlySortedBy cmp (map key_of (before_rest o rest))
  unfolding IsStrictlySortedBy
  one_sorted i rest None e above later = later
  one_sorted i rest (Some f) e above later = (above f (sym e), later)

  sorted_picked : (is : List ℕ) → ((r s i j : ℕ) (e f : Entry K V) → r < s → slice_get is r ≡ Some i → slice_get is s ≡ Some j → slice_get es i ≡ Some e → slice_get es j ≡ Some f → cmp (key_of e) (key_of f) ≡ Less)
      → IsStrictlySortedBy cmp (map key_of (picked es is))
  unfolding IsStrictlySortedBy
  sorted_picked [] rises = tt
  sorted_picked (i ∷ is) rises =
      one_sorted i (picked es is) (slice_get es i) refl
      (λ e at. all_above (key_of e) is (λ r j f there is_there. rises 0 (suc r) i j e f (omega arith) refl there at is_there))
      (sorted_picked is (λ r s j k e f lt a b c d. rises (suc r) (suc s) j k e f (omega (arith, lt)) a b c d))

  key_there : (i : ℕ) (e : Entry K V) → slice_get es i ≡ Some e → slice_get (map key_of es) i ≡ Some (key_of e)
  key_there i e at = get_map key_of es i ∙ ap (option_map key_of) at

  -- Each index of the table is that of an entry.
  pub entries_within : (order : List ℕ) → IsOrdered cmp order (map key_of es) → (r i : ℕ) → slice_get order r ≡ Some i → i < length es
  entries_within order o r i at = let w = within cmp order (map key_of es) o r i at in let l = length-map es key_of in omega (arith, w, l)

-- The entries at the indices of an ordered table, in order.
same_picked : {K V : Type 0} (cmp : K → K → Ordering) (es : List (Entry K V)) (order : List ℕ) → IsOrdered cmp order (map key_of es) → IsPermutation es (picked es order)
same_picked cmp [] [] o = IsPermutation-refl []
same_picked cmp [] (i ∷ is) o = absurd (let l = length_permutation [] (i ∷ is) o.all in let q : ⊥ = omega (arith, l) in q)
same_picked cmp (e ∷ es) order o =
    let all = e ∷ es in
    let f = λ (i : ℕ). get_or all i e in
    let moved = IsPermutation-map f (range_with_len 0 (length (map key_of all))) order o.all in
    let from = ap (λ n. map f (range_with_len 0 n)) (length-map all key_of) ∙ each_after [] all e in
    subst (λ l. IsPermutation l (picked all order)) from (subst (λ l. IsPermutation (map f (range_with_len 0 (length (map key_of all)))) l) (sym (picked_map all e order (entries_within cmp all order o))) moved)

pub in_order : {K V : Type 0} (cmp : K → K → Ordering) (es : List (Entry K V)) (order : List ℕ) → IsOrdered cmp order (map key_of es) → IsInOrder cmp es (picked es order)
in_order cmp es order o = record {
  same = same_picked cmp es order o;
  ascending = sorted_picked cmp es order (λ r s i j e f lt a b c d. o.ascending r s (key_of e) (key_of f) lt (i, a, key_there cmp es i e c) (j, b, key_there cmp es j f d));
}

module _ {K : Type 0} (cmp : K → K → Ordering) (total : IsTotalOrder cmp) (order : List ℕ) (keys : List K) where
  one_there : (r s i j : ℕ) (x y : K) → r ≡ s → slice_get order r ≡ Some i → slice_get order s ≡ Some j → slice_get keys i ≡ Some x → slice_get keys j ≡ Some y → x ≡ y
  one_there r s i j x y e a b c d = same_Some x y (sym c ∙ ap (slice_get keys) (same_Some i j (sym a ∙ (ap (slice_get order) e ∙ b))) ∙ d)

  -- The key at the first rank is the least one.
  pub least_first : IsOrdered cmp order keys → (r i : ℕ) (x : K) → r ≡ 0 → slice_get order r ≡ Some i → slice_get keys i ≡ Some x → IsLeast cmp x keys
  least_first o r i x first a c j y d =
      let s = ranked cmp order keys o j y d in
      elim (cases_lt r s.0) [
        | inl up ↦ ap is_gt (o.ascending r s.0 x y up (i, a, c) (j, s.1, d))
        | inr down ↦
            let e : r ≡ s.0 = omega (arith, first, down) in
            ap is_gt (ap (cmp x) (sym (one_there r s.0 i j x y e a s.1 c d)) ∙ tied_itself total x)
      ]

  -- The key at the last rank is the greatest one.
  pub greatest_last : IsOrdered cmp order keys → (r i : ℕ) (x : K) → r + 1 ≡ length keys → slice_get order r ≡ Some i → slice_get keys i ≡ Some x → IsGreatest cmp x keys
  greatest_last o r i x last a c j y d =
      let s = ranked cmp order keys o j y d in
      let low = slice_get_within order s.0 j s.1 in
      let size = counted cmp order keys o in
      elim (cases_lt s.0 r) [
        | inl down ↦ ap is_lt (turned_less total y x (o.ascending s.0 r y x down (j, s.1, d) (i, a, c)))
        | inr up ↦
            let e : r ≡ s.0 = omega (arith, last, up, low, size) in
            ap is_lt (ap (cmp x) (sym (one_there r s.0 i j x y e a s.1 c d)) ∙ tied_itself total x)
      ]
