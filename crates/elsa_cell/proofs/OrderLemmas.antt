-- What an ordered table shows of the keys, and what an insertion leaves.
use Rattle.std.proofs.Common.{◌≡◌, ℕ, zero, suc, ◌+◌, ◌-◌, ◌/◌, ◌<◌, ◌≤◌, ◌⊎◌, Bool, List, [], ◌∷◌, ◌++◌, cond, length, get_or, position, slice_get, None, Some, Result, Ok, Err, IfErr, OnErr, refl, ap, subst, sym, ◌∙◌, inl, inr, arith}
use Rattle.std.proofs.lemmas.Bool.{cases_lt, lt-ltb, le-ltb}
use Rattle.std.proofs.lemmas.List.{length-append, get_or_append_left, get_or_push}
use Rattle.std.proofs.lemmas.List.Edits.{get_or-insert_above, get_or-insert_at, get_or-insert_below, length-insert}
use Rattle.std.proofs.lemmas.List.FromFn.{get_or-range_with_len, length-range_with_len}
use Rattle.std.proofs.lemmas.List.Sorted.{All-permutation, Contains-permutation, IsPermutation-cons, IsPermutation-insert, IsPermutation-refl, IsPermutation-to_front, IsPermutation-trans, length_permutation}
use Rattle.std.proofs.lemmas.List.Sums.{position_or_len_is}
use Rattle.std.proofs.lemmas.Option.{none-some, same_Some, slice_get_within, slice_get-get_or, get_or_from_slice_get}
use Rattle.std.specs.declared.cmp.Ordering.{Ordering}
use Rattle.std.specs.declared.cmp.Ordering.TheVariants.{Less, Equal, Greater}
use Rattle.std.specs.Bool.{nat_lt}
use Rattle.std.specs.Cmp.{IsTotalOrder}
use Rattle.std.specs.List.{All, Contains, insert, position_or_len, range_with_len}
use Rattle.std.specs.List.Sorted.{IsPermutation}
use Rattle.std.specs.Ordering.{is_eq}
use Rattle.elsa_cell.specs.Ordered.{HasAt, IsBetween, IsGap, IsOrdered}
use Rattle.elsa_cell.specs.Queries.{turned_greater, turned_less}

-- The numbers up to the next one.
range_more : (a n : ℕ) → range_with_len a (suc n) ≡ range_with_len a n ++ (a + n) ∷ []
range_more a zero = ap (λ k. k ∷ []) (let e : a ≡ a + 0 = omega arith in e)
range_more a (suc n) = ap (λ l. a ∷ l) (range_more (a + 1) n ∙ ap (λ k. range_with_len (a + 1) n ++ k ∷ []) (let e : a + 1 + n ≡ a + suc n = omega arith in e))

range_next : (n : ℕ) → range_with_len 0 (suc n) ≡ range_with_len 0 n ++ n ∷ []
range_next n = range_more 0 n ∙ ap (λ k. range_with_len 0 n ++ k ∷ []) (let z : 0 + n ≡ n = omega arith in z)

-- The middle of a range that is not empty.
pub middle : (low high : ℕ) → low < high → (low ≤ low + (high - low) / 2) × (low + (high - low) / 2 < high)
middle low high lt = (omega (arith, lt), omega (arith, lt))

-- What holds of each error holds if there is one.
pub at_error : {A E Q : Type 0} {P : E → Type 0} (r : Result A E) → ((e : E) → P e → Q) → IfErr r P → OnErr r Q
at_error (Ok x) f h = tt
at_error (Err e) f h = f e h

module _ {K : Type 0} (cmp : K → K → Ordering) (order : List ℕ) (keys : List K) where
  -- The table is as long as the list of keys.
  pub counted : IsOrdered cmp order keys → length order ≡ length keys
  counted o = length_permutation (range_with_len 0 (length keys)) order o.all ∙ length-range_with_len 0 (length keys)

  -- Each index of the table is that of a key.
  pub within : IsOrdered cmp order keys → (r i : ℕ) → slice_get order r ≡ Some i → i < length keys
  within o r i at =
      let n = length keys in
      let low : All (λ k. k < n) (range_with_len 0 n) = λ k d lt. (let small : k < n = omega (arith, lt, length-range_with_len 0 n) in let is = get_or-range_with_len 0 n k d small in omega (arith, small, is)) in
      let all = All-permutation (λ k. k < n) (range_with_len 0 n) order o.all low in
      let is = get_or_from_slice_get order r i i at in
      let small = all r i (slice_get_within order r i at) in
      omega (arith, is, small)

  -- Each key has a rank.
  pub ranked : IsOrdered cmp order keys → (i : ℕ) (x : K) → slice_get keys i ≡ Some x → (r : ℕ) × (slice_get order r ≡ Some i)
  ranked o i x at =
      let n = length keys in
      let lt = slice_get_within keys i x at in
      let here : Contains (range_with_len 0 n) i = (i, (let l = length-range_with_len 0 n in omega (arith, l, lt)), get_or-range_with_len 0 n i i lt ∙ (let z : 0 + i ≡ i = omega arith in z)) in
      let there = Contains-permutation (range_with_len 0 n) order i o.all here in
      (there.0, slice_get-get_or order there.0 i there.1 ∙ ap Some there.2)

  -- At a rank of the table there is a key.
  pub key_there : IsOrdered cmp order keys → (r i : ℕ) (x : K) → slice_get order r ≡ Some i → slice_get keys i ≡ Some x → HasAt order keys r x
  key_there o r i x at is = (i, at, is)

module _ {K : Type 0} (test : K → Bool) (keys : List K) where
  is_at : (i : ℕ) → position_or_len test keys ≡ i → i < length keys → position test keys ≡ Some i
  is_at i e lt = ap (λ n. cond (nat_lt n (length keys)) (Some n) None) e ∙ ap (λ b. cond b (Some i) None) (lt-ltb i _ lt)

  is_nowhere : position_or_len test keys ≡ length keys → position test keys ≡ None
  is_nowhere e = ap (λ n. cond (nat_lt n (length keys)) (Some n) None) e ∙ ap (λ b. cond b (Some (length keys)) None) (le-ltb (length keys) (length keys) (omega arith))

module _ {K : Type 0} (cmp : K → K → Ordering) (total : IsTotalOrder cmp) (against : K → Ordering) where
  -- The index of the key that equals the query is that of the first one.
  pub found_first : ((x y : K) → against x ≡ Equal → against y ≡ cmp x y) → (order : List ℕ) (keys : List K) → IsOrdered cmp order keys → (i : ℕ) (key : K) → slice_get keys i ≡ Some key → against key ≡ Equal
      → position (λ k. is_eq (against k)) keys ≡ Some i
  found_first alike order keys o i key at equal =
      let lt = slice_get_within keys i key at in
      let here : get_or keys i key ≡ key = get_or_from_slice_get keys i key key at in
      let r = ranked cmp order keys o i key at in
      is_at (λ k. is_eq (against k)) keys i
      (position_or_len_is (λ k. is_eq (against k)) keys i key (omega (arith, lt))
      (λ j before.
      let y = get_or keys j key in
      let small : j < length keys = omega (arith, before, lt) in
      let there = slice_get-get_or keys j key small in
      let s = ranked cmp order keys o j y there in
      elim (cases_lt r.0 s.0) [
        | inl up ↦ ap is_eq (alike key y equal ∙ o.ascending r.0 s.0 key y up (i, r.1, at) (j, s.1, there))
        | inr down ↦ elim (cases_lt s.0 r.0) [
          | inl less ↦ ap is_eq (alike key y equal ∙ turned_less total y key (o.ascending s.0 r.0 y key less (j, s.1, there) (i, r.1, at)))
          | inr same ↦
              let e : s.0 ≡ r.0 = omega (arith, down, same) in
              let one = same_Some j i (sym s.1 ∙ ap (slice_get order) e ∙ r.1) in
              absurd (let q : ⊥ = omega (arith, one, before) in q)
        ]
      ])
      (λ _. ap (λ k. is_eq (against k)) here ∙ ap is_eq equal))
      lt

  -- If there is a gap for the query, it finds no key.
  pub found_nowhere : (order : List ℕ) (keys : List K) (gap : ℕ) → IsOrdered cmp order keys → IsGap against order keys gap → position (λ k. is_eq (against k)) keys ≡ None
  found_nowhere order [] gap o g = refl
  found_nowhere order (x ∷ xs) gap o g =
      let keys = x ∷ xs in
      is_nowhere (λ k. is_eq (against k)) keys
      (position_or_len_is (λ k. is_eq (against k)) keys (length keys) x (omega arith)
      (λ j lt.
      let y = get_or keys j x in
      let there = slice_get-get_or keys j x lt in
      let s = ranked cmp order keys o j y there in
      elim (cases_lt s.0 gap) [
        | inl low ↦ ap is_eq (g.between.below s.0 y low (j, s.1, there))
        | inr high ↦ ap is_eq (g.between.above s.0 y high (j, s.1, there))
      ])
      (λ lt. absurd (let q : ⊥ = omega (arith, lt) in q)))

  -- The search: at its beginning, and after a comparison.
  pub between_all : (order : List ℕ) (keys : List K) → IsBetween against order keys 0 (length order)
  between_all order keys = record {
    below = λ r x lt at. absurd (let q : ⊥ = omega (arith, lt) in q);
    above = λ r x le at. absurd (let w = slice_get_within order r at.0 at.1 in let q : ⊥ = omega (arith, le, w) in q);
  }

  one_key : (order : List ℕ) (keys : List K) (r : ℕ) (x y : K) → HasAt order keys r x → HasAt order keys r y → x ≡ y
  one_key order keys r x y a b = same_Some x y (sym a.2 ∙ ap (slice_get keys) (same_Some a.0 b.0 (sym a.1 ∙ b.1)) ∙ b.2)

  pub between_up : ((x y : K) → cmp x y ≡ Less → against y ≡ Greater → against x ≡ Greater) → (order : List ℕ) (keys : List K) (low high middle : ℕ) (key : K) → IsOrdered cmp order keys → IsBetween against order keys low high → HasAt order keys middle key
      → against key ≡ Greater → IsBetween against order keys (middle + 1) high
  between_up lower order keys low high middle key o b at greater = record {
    below = λ r x lt there. elim (cases_lt r middle) [
      | inl less ↦ lower x key (o.ascending r middle x key less there at) greater
      | inr past ↦
          let e : middle ≡ r = omega (arith, lt, past) in
          ap against (sym (one_key order keys r key x (subst (λ n. HasAt order keys n key) e at) there)) ∙ greater
    ];
    above = b.above;
  }

  -- The search over the first keys of blocks: it continues from a key that is not greater.
  pub between_greater : ((x y : K) → cmp x y ≡ Less → against y ≡ Greater → against x ≡ Greater) → (order : List ℕ) (keys : List K) (low high middle : ℕ) (key : K) → IsOrdered cmp order keys → IsBetween against order keys low high → HasAt order keys middle key
      → against key ≡ Greater → IsBetween against order keys middle high
  between_greater lower order keys low high middle key o b at greater = record {
    below = λ r x lt there. lower x key (o.ascending r middle x key lt there at) greater;
    above = b.above;
  }

  pub between_equal : ((x y : K) → against x ≡ Equal → against y ≡ cmp x y) → (order : List ℕ) (keys : List K) (low high middle : ℕ) (key : K) → IsOrdered cmp order keys → IsBetween against order keys low high → HasAt order keys middle key
      → against key ≡ Equal → IsBetween against order keys middle high
  between_equal alike order keys low high middle key o b at equal = record {
    below = λ r x lt there. alike key x equal ∙ turned_less total x key (o.ascending r middle x key lt there at);
    above = b.above;
  }

  pub between_down : ((x y : K) → cmp x y ≡ Less → against x ≡ Less → against y ≡ Less) → (order : List ℕ) (keys : List K) (low high middle : ℕ) (key : K) → IsOrdered cmp order keys → IsBetween against order keys low high → HasAt order keys middle key
      → against key ≡ Less → IsBetween against order keys low middle
  between_down higher order keys low high middle key o b at less = record {
    below = b.below;
    above = λ r x le there. elim (cases_lt middle r) [
      | inl past ↦ higher key x (o.ascending middle r key x past at there) less
      | inr same ↦
          let e : middle ≡ r = omega (arith, le, same) in
          ap against (sym (one_key order keys r key x (subst (λ n. HasAt order keys n key) e at) there)) ∙ less
    ];
  }

module _ {K : Type 0} (cmp : K → K → Ordering) where
  -- A table without indices is for no keys.
  pub ordered_none : IsOrdered cmp [] []
  ordered_none = record {
    all = IsPermutation-refl [];
    ascending = λ r s x y lt a b. absurd (none-some a.0 a.1);
  }

  -- A key after an insertion: one at a lower rank, the new one, or one at a higher rank.
  split_gap : (order : List ℕ) (keys : List K) (key : K) (gap : ℕ) → IsOrdered cmp order keys → gap ≤ length order → (r : ℕ) (x : K) → HasAt (insert order gap (length order)) (keys ++ key ∷ []) r x
      → ((r < gap) × HasAt order keys r x) ⊎ ((r ≡ gap) × (key ≡ x)) ⊎ ((gap < r) × HasAt order keys (r - 1) x)
  split_gap order keys key gap o le r x at =
      let n = length order in
      let i = at.0 in
      let size = length-insert order gap n le in
      let lt = slice_get_within (insert order gap n) r i at.1 in
      let is = get_or_from_slice_get (insert order gap n) r i i at.1 in
      elim (cases_lt r gap) [
        | inl low ↦
            let there = slice_get-get_or order r i (omega (arith, low, le)) ∙ ap Some (sym (get_or-insert_below order gap n i r low le) ∙ is) in
            inl (low, (i, there, kept i x (within cmp order keys o r i there) at.2))
        | inr high ↦ elim (cases_lt gap r) [
          | inl past ↦
              let back : r - 1 + 1 ≡ r = omega (arith, past) in
              let there = slice_get-get_or order (r - 1) i (omega (arith, lt, size, past)) ∙ ap Some (sym (get_or-insert_above order gap n i (r - 1) (omega (arith, past)) le) ∙ (ap (λ k. get_or (insert order gap n) k i) back ∙ is)) in
              inr (inr (past, (i, there, kept i x (within cmp order keys o (r - 1) i there) at.2)))
          | inr same ↦
              let e : r ≡ gap = omega (arith, high, same) in
              let number : i ≡ length keys = sym is ∙ (ap (λ k. get_or (insert order gap n) k i) e ∙ (get_or-insert_at order gap n i le ∙ counted cmp order keys o)) in
              inr (inl (e, sym (get_or_push keys key x i (sym number)) ∙ get_or_from_slice_get (keys ++ key ∷ []) i x x at.2))
        ]
      ]
    where
      kept : (i : ℕ) (x : K) → i < length keys → slice_get (keys ++ key ∷ []) i ≡ Some x → slice_get keys i ≡ Some x
      kept i x small there = slice_get-get_or keys i x small ∙ ap Some (sym (get_or_append_left keys (key ∷ []) x i small) ∙ get_or_from_slice_get (keys ++ key ∷ []) i x x there)

  -- The table has the index of a new last key.
  pub ordered_put : (total : IsTotalOrder cmp) (order : List ℕ) (keys : List K) (key : K) (gap : ℕ) → IsOrdered cmp order keys → IsGap (cmp key) order keys gap → IsOrdered cmp (insert order gap (length order)) (keys ++ key ∷ [])
  ordered_put total order keys key gap o g =
      let n = length order in
      let m = length keys in
      let size = counted cmp order keys o in
      let grown : length (keys ++ key ∷ []) ≡ suc m = (let l = length-append keys (key ∷ []) in omega (arith, l)) in
      let more = IsPermutation-trans (range_with_len 0 m ++ m ∷ []) (m ∷ range_with_len 0 m) (m ∷ order) (IsPermutation-to_front (range_with_len 0 m) m) (IsPermutation-cons m (range_with_len 0 m) order o.all) in
      let put = IsPermutation-trans (range_with_len 0 m ++ m ∷ []) (m ∷ order) (insert order gap m) more (IsPermutation-insert order gap m) in
      let whole = subst (λ l. IsPermutation l (insert order gap m)) (sym (ap (range_with_len 0) grown ∙ range_next m)) put in
      record {
        all = subst (λ k. IsPermutation (range_with_len 0 (length (keys ++ key ∷ []))) (insert order gap k)) (sym size) whole;
        ascending = λ r s x y lt a b. ascends r s x y lt (split_gap order keys key gap o g.within r x a) (split_gap order keys key gap o g.within s y b);
      }
    where
      ascends : (r s : ℕ) (x y : K) → r < s → ((r < gap) × HasAt order keys r x) ⊎ ((r ≡ gap) × (key ≡ x)) ⊎ ((gap < r) × HasAt order keys (r - 1) x)
          → ((s < gap) × HasAt order keys s y) ⊎ ((s ≡ gap) × (key ≡ y)) ⊎ ((gap < s) × HasAt order keys (s - 1) y) → cmp x y ≡ Less
      ascends r s x y lt (inl a) (inl b) = o.ascending r s x y lt a.1 b.1
      ascends r s x y lt (inl a) (inr (inl b)) = ap (cmp x) (sym b.1) ∙ turned_greater total key x (g.between.below r x a.0 a.1)
      ascends r s x y lt (inl a) (inr (inr b)) = o.ascending r (s - 1) x y (omega (arith, a.0, b.0)) a.1 b.1
      ascends r s x y lt (inr (inl a)) (inl b) = absurd (let q : ⊥ = omega (arith, lt, a.0, b.0) in q)
      ascends r s x y lt (inr (inl a)) (inr (inl b)) = absurd (let q : ⊥ = omega (arith, lt, a.0, b.0) in q)
      ascends r s x y lt (inr (inl a)) (inr (inr b)) = ap (λ k. cmp k y) (sym a.1) ∙ g.between.above (s - 1) y (omega (arith, b.0)) b.1
      ascends r s x y lt (inr (inr a)) (inl b) = absurd (let q : ⊥ = omega (arith, lt, a.0, b.0) in q)
      ascends r s x y lt (inr (inr a)) (inr (inl b)) = absurd (let q : ⊥ = omega (arith, lt, a.0, b.0) in q)
      ascends r s x y lt (inr (inr a)) (inr (inr b)) = o.ascending (r - 1) (s - 1) x y (omega (arith, lt, a.0, b.0)) a.1 b.1
