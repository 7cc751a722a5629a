-- Lemmas about receipts that are removed one by one, from the last entry to the first.
use Rattle.std.proofs.Common.{◌≡◌, ◌+◌, ◌-◌, ◌<◌, ◌≤◌, ◌==◌, ◌≢◌, ◌↔◌, inl, inr, ℕ, suc, zero, Bool, cond, All, List, [], ◌∷◌, ◌++◌, length, slice_get, get_or, set, take, take_all, IsSomeAnd, Some, refl, sym, ap, subst, ◌∙◌, arith, length-append}
use Rattle.std.specs.List.{sum_by}
use Rattle.std.proofs.lemmas.Bool.{cases_eq, cases_lt}
use Rattle.std.proofs.lemmas.Bool.Decides.{nat_tests}
use Rattle.std.proofs.lemmas.List.{get_or-set_other, get_or-set_same, length-set, take_more}
use Rattle.std.proofs.lemmas.List.Elements.{All-nil, All-push, All-same, All-set}
use Rattle.std.proofs.lemmas.List.Quantifiers.{all_pairs_push}
use Rattle.std.proofs.lemmas.List.Sums.{get_or-le-sum_by, sum_by-le, sum_by-set, sum_by_push}
use Rattle.std.proofs.lemmas.Option.{get_or_from_slice_get, slice_get-get_or, slice_get_within}
use Rattle.std.proofs.Math.ListN.{get_or-append}
use Rattle.std.proofs.Math.Seq.{get_or-append_seam}
use Rattle.elsa_history.specs.Receipts.{receipts_for, receipts_at, Rises, IsCall, IsAtIndex, AreOf, EndsElsewhere, IsTakenFrom}

-- ---- lists
all_front : {X : Type 0} (P : X → Type 0) (xs ys : List X) → All P (xs ++ ys) → All P xs
all_front P xs ys h k d lt = subst P (get_or-append xs ys d k lt) (h k d (omega (arith, lt, length-append xs ys)))

-- If there are at most n items, a property of each of the first n is one of each item.
pub all_taken : {X : Type 0} (P : X → Type 0) (xs : List X) (n : ℕ) → length xs ≤ n → All P (take n xs) → All P xs
all_taken P xs n l h = All-same P xs (take n xs) (sym (take_all n xs l)) h

-- An index with an item is below the length.
pub get_within : {X : Type 0} (P : X → Type 0) (xs : List X) (i : ℕ) → IsSomeAnd (slice_get xs i) P → i < length xs
get_within P [] i h = absurd h
get_within P (x ∷ xs) zero h = omega arith
get_within P (x ∷ xs) (suc i) h = let k : i < length xs = get_within P xs i h in omega arith

get_less : {X : Type 0} (xs ys : List X) (i : ℕ) → i < length xs → slice_get (xs ++ ys) i ≡ slice_get xs i
get_less [] ys i h = absurd (omega arith)
get_less (x ∷ xs) ys zero h = refl
get_less (x ∷ xs) ys (suc i) h = get_less xs ys i (omega arith)

get_last : {X : Type 0} (xs : List X) (x : X) → slice_get (xs ++ x ∷ []) (length xs) ≡ Some x
get_last [] x = refl
get_last (y ∷ xs) x = get_last xs x

-- The item that was read at an index.
pub here : {X : Type 0} (xs : List X) (i : ℕ) (x : X) → i < length xs → x ≡ get_or xs i x → slice_get xs i ≡ Some x
here xs i x l e = slice_get-get_or xs i x l ∙ ap Some (sym e)

-- The first k items are the first k - 1 and the next one.
pub take_front : {X : Type 0} (xs : List X) (k : ℕ) (x : X) → 0 < k → k ≤ length xs → x ≡ get_or xs (k - 1) x → take (k - 1) xs ++ x ∷ [] ≡ take k xs
take_front xs k x some within is =
    let on : k - 1 + 1 ≡ k = omega (arith, some) in
    ap (λ y. take (k - 1) xs ++ y ∷ []) is ∙ sym (take_more xs (k - 1) x (omega (arith, some, within))) ∙ ap (λ n. take n xs) on

-- ---- counts
-- A number is counted as 1 at itself.
pub test_at : (k n : ℕ) → k ≡ n → ◌≡◌ {A = ℕ} (cond (k == n) 1 0) 1
test_at k n e = grind (arith, nat_tests)

-- It is counted as 0 at other numbers.
pub test_off : (k n : ℕ) → k ≢ n → ◌≡◌ {A = ℕ} (cond (k == n) 1 0) 0
test_off k n e = grind (arith, nat_tests)

-- The sum of counts is 0 if each is 0.
pub sum_zero : {X : Type 0} (f : X → ℕ) (xs : List X) → All (λ x. f x ≡ 0) xs → sum_by f xs ≡ 0
sum_zero f xs h = let most = sum_by-le f 0 xs (λ k d lt. let z = h k d lt in omega (arith, z)) in omega (arith, most)

-- If the sum is 0, each count is 0.
pub each_zero : {X : Type 0} (f : X → ℕ) (xs : List X) → sum_by f xs ≡ 0 → All (λ x. f x ≡ 0) xs
each_zero f xs z k d lt = let most = get_or-le-sum_by f xs k d lt in omega (arith, most, z)

rises_front : {C R : Type 0} (rs : List (ℕ × C × R)) (r : ℕ × C × R) → Rises (rs ++ r ∷ []) → Rises rs
rises_front rs r h i j d before within =
    let less = h i j d before (omega (arith, within, length-append rs (r ∷ []))) in
    omega (arith, less, ap (λ s. s.0) (get_or-append rs (r ∷ []) d i (omega (arith, before, within))), ap (λ s. s.0) (get_or-append rs (r ∷ []) d j within))

-- If no pass ends at an index, and none has a receipt for a later index, no receipt is for that
-- index.
none_for : {C R : Type 0} (n m : ℕ) (rs : List (ℕ × C × R)) → m ≡ n + 1 → Rises rs → All (λ q. q.0 < m) rs → EndsElsewhere n rs → receipts_for n rs ≡ 0
none_for n m rs next rises below ends = sum_zero _ rs (λ k d lt.
    let last : (get_or rs (length rs - 1) d).0 ≢ n = rw (slice_get-get_or rs (length rs - 1) d (omega (arith, lt))) at ends in
    let low = below (length rs - 1) d (omega (arith, lt)) in
    test_off (get_or rs k d).0 n (elim (cases_lt k (length rs - 1)) [
      | inl before ↦ let less = rises k (length rs - 1) d before (omega (arith, lt)) in omega (arith, less, low, next)
      | inr end ↦ let same : k ≡ length rs - 1 = omega (arith, end, lt) in subst (λ i. (get_or rs i d).0 ≢ n) (sym same) last
    ]))

-- ---- receipts of a history and of one with another entry
-- They are for indices of the history.
pub each_below : {C R : Type 0} (eqc : C → C → Bool) (eqr : R → R → Bool) (es : List (ℕ × C × R)) (ps : List (ℕ × List (ℕ × C × R))) → All (λ p. All (IsAtIndex eqc eqr es p.0) p.1) ps → All (λ p. All (λ r. r.0 < length es) p.1) ps
each_below eqc eqr es ps h k d lt j c less = get_within _ es (get_or (get_or ps k d).1 j c).0 (h k d lt j c less)

module _ {C R : Type 0} (eqc : C → C → Bool) (eqr : R → R → Bool) (es : List (ℕ × C × R)) (e : ℕ × C × R) where
  abbrev longer : List (ℕ × C × R)
  longer = es ++ e ∷ []

  one_longer : length longer ≡ length es + 1
  one_longer = length-append es (e ∷ [])

  each_more : (ps : List (ℕ × List (ℕ × C × R))) → All (λ p. All (IsAtIndex eqc eqr es p.0) p.1) ps → All (λ p. All (IsAtIndex eqc eqr longer p.0) p.1) ps
  each_more ps h k d lt j c less =
      let n = (get_or ps k d).0 in let r = get_or (get_or ps k d).1 j c in
      subst (λ o. IsSomeAnd o (IsCall eqc eqr n r)) (sym (get_less es (e ∷ []) r.0 (each_below eqc eqr es ps h k d lt j c less))) (h k d lt j c less)

  -- If none is for the last entry, they belong to the shorter history.
  each_less : (ps : List (ℕ × List (ℕ × C × R))) → receipts_at (length es) ps ≡ 0 → All (λ p. All (IsAtIndex eqc eqr longer p.0) p.1) ps → All (λ p. All (IsAtIndex eqc eqr es p.0) p.1) ps
  each_less ps none h k d lt j c less =
      let n = (get_or ps k d).0 in let r = get_or (get_or ps k d).1 j c in
      let inside = get_within _ longer r.0 (h k d lt j c less) in
      let other = each_zero _ (get_or ps k d).1 (each_zero _ ps none k d lt) j c less in
      let low : r.0 < length es = grind (arith, nat_tests, inside, one_longer, other) in
      subst (λ o. IsSomeAnd o (IsCall eqc eqr n r)) (get_less es (e ∷ []) r.0 low) (h k d lt j c less)

  -- If no pass ends at the index of the last entry, the receipts belong to the history exactly if
  -- they belong to the shorter one.
  pub of_skipped : (ps : List (ℕ × List (ℕ × C × R))) → All (λ p. EndsElsewhere (length es) p.1) ps → AreOf eqc eqr ps es ↔ AreOf eqc eqr ps longer
  of_skipped ps elsewhere = (
    (λ a. record { once = a.once; right = each_more ps a.right; rising = a.rising }),
    (λ a.
        let low = each_below eqc eqr longer ps a.right in
        let none = sum_zero _ ps (λ k d lt. none_for (length es) (length longer) (get_or ps k d).1 one_longer (a.rising k d lt) (low k d lt) (elsewhere k d lt)) in
        record { once = a.once; right = each_less ps none a.right; rising = a.rising }),
  )

  -- Another receipt: p, which is q with another receipt, is pass i of the passes, and `left` has q
  -- at that index.
  module _ (ps : List (ℕ × List (ℕ × C × R))) (i : ℕ) (q : ℕ × List (ℕ × C × R)) (r : C × R) (at : slice_get ps i ≡ Some (q.0, q.1 ++ (length es, r.0, r.1) ∷ [])) where
    abbrev last : ℕ × C × R
    last = (length es, r.0, r.1)

    abbrev p : ℕ × List (ℕ × C × R)
    p = (q.0, q.1 ++ last ∷ [])

    abbrev left : List (ℕ × List (ℕ × C × R))
    left = set ps i q

    inside : i < length ps
    inside = slice_get_within ps i p at

    stands : (d : ℕ × List (ℕ × C × R)) → get_or ps i d ≡ p
    stands d = get_or_from_slice_get ps i p d at

    counted : (k : ℕ) → receipts_at k ps ≡ receipts_at k left + cond (length es == k) 1 0
    counted k =
        let moved = sum_by-set (λ pass. receipts_for k pass.1) ps i q p inside in
        let one : receipts_for k (get_or ps i p).1 ≡ receipts_for k q.1 + cond (length es == k) 1 0 = ap (λ pass. receipts_for k pass.1) (stands p) ∙ sum_by_push (λ s. cond (s.0 == k) 1 0) q.1 last in
        omega (arith, moved, one)

    -- A property of each pass of `left`, and of p, is one of each pass.
    all_back : (P : ℕ × List (ℕ × C × R) → Type 0) → All P left → P p → All P ps
    all_back P h mine k d lt = elim (cases_eq k i) [
      | inl same ↦ subst P (sym (ap (λ j. get_or ps j d) same ∙ stands d)) mine
      | inr other ↦ subst P (get_or-set_other ps i k q d other) (h k d (omega (arith, lt, length-set ps i q)))
    ]

    -- Without the receipt the passes belong to the shorter history, and the receipt is the entry's.
    of_less : AreOf eqc eqr ps longer → AreOf eqc eqr left es × IsCall eqc eqr q.0 last e
    of_less a =
        let mine : All (IsAtIndex eqc eqr longer q.0) p.1 = subst (λ pass. All (IsAtIndex eqc eqr longer pass.0) pass.1) (stands p) (a.right i p inside) in
        let rise : Rises p.1 = subst (λ pass. Rises pass.1) (stands p) (a.rising i p inside) in
        let once = a.once (length es) in
        let none : receipts_at (length es) left ≡ 0 = omega (arith, counted (length es), once, test_at (length es) (length es) refl) in
        let its : IsAtIndex eqc eqr longer q.0 (get_or p.1 (length q.1) last) = mine (length q.1) last (omega (arith, length-append q.1 (last ∷ []))) in (
          record {
            once = λ k. let most = a.once k in omega (arith, counted k, most);
            right = each_less left none (All-set (λ pass. All (IsAtIndex eqc eqr longer pass.0) pass.1) ps i q (all_front (IsAtIndex eqc eqr longer q.0) q.1 (last ∷ []) mine) a.right);
            rising = All-set (λ pass. Rises pass.1) ps i q (rises_front q.1 last rise) a.rising;
          },
          subst (λ o. IsSomeAnd o (IsCall eqc eqr q.0 last)) (get_last es e) (subst (IsAtIndex eqc eqr longer q.0) (get_or-append_seam q.1 last [] last) its),
        )

    -- With the receipt, if it is the entry's, they belong to the longer history.
    of_more : IsCall eqc eqr q.0 last e → AreOf eqc eqr left es → AreOf eqc eqr ps longer
    of_more call a =
        let within : i < length left = omega (arith, inside, length-set ps i q) in
        let more = each_more left a.right in
        let low = each_below eqc eqr es left a.right in
        let q_stands : get_or left i q ≡ q = get_or-set_same ps i q q inside in
        let mine : All (IsAtIndex eqc eqr longer q.0) q.1 = subst (λ pass. All (IsAtIndex eqc eqr longer pass.0) pass.1) q_stands (more i q within) in
        let rise : Rises q.1 = subst (λ pass. Rises pass.1) q_stands (a.rising i q within) in
        let below : All (λ s. s.0 < length es) q.1 = subst (λ pass. All (λ s. s.0 < length es) pass.1) q_stands (low i q within) in
        let none : receipts_at (length es) left ≡ 0 = sum_zero _ left (λ k d lt. sum_zero _ (get_or left k d).1 (λ j c less. let under = low k d lt j c less in test_off _ (length es) (omega (arith, under)))) in
        record {
          once = λ k. elim (cases_eq k (length es)) [
            | inl same ↦ subst (λ n. receipts_at n ps ≤ 1) (sym same) (omega (arith, counted (length es), none, test_at (length es) (length es) refl))
            | inr other ↦ let most = a.once k in omega (arith, counted k, most, test_off (length es) k (λ is. other (sym is)))
          ];
          right = all_back (λ pass. All (IsAtIndex eqc eqr longer pass.0) pass.1) more (All-push (IsAtIndex eqc eqr longer q.0) q.1 last mine (subst (λ o. IsSomeAnd o (IsCall eqc eqr q.0 last)) (sym (get_last es e)) call));
          rising = all_back (λ pass. Rises pass.1) a.rising (all_pairs_push (λ s u. s.0 < u.0) q.1 last rise below);
        }

-- If a pass's last receipt is removed and it is the entry's, the passes belonged to the longer
-- history exactly if they now belong to the shorter one; if it isn't, they didn't belong to the
-- longer one.
pub taken_last : {C R : Type 0} (eqc : C → C → Bool) (eqr : R → R → Bool) (ps : List (ℕ × List (ℕ × C × R))) (i : ℕ) (p q : ℕ × List (ℕ × C × R)) (n : ℕ) (r : C × R) (e : ℕ × C × R)
    → slice_get ps i ≡ Some p → IsTakenFrom n r p q → (es : List (ℕ × C × R)) → length es ≡ n
    → (IsCall eqc eqr q.0 (n, r.0, r.1) e → AreOf eqc eqr (set ps i q) es ↔ AreOf eqc eqr ps (es ++ e ∷ [])) × ((IsCall eqc eqr q.0 (n, r.0, r.1) e → ⊥) → AreOf eqc eqr ps (es ++ e ∷ []) → ⊥)
taken_last eqc eqr ps i p q n r e at (number, receipts) es is =
    let index : (n, r.0, r.1) ≡ (length es, r.0, r.1) = ap (λ m. (m, r.0, r.1)) (sym is) in
    let whole : p ≡ (q.0, q.1 ++ (length es, r.0, r.1) ∷ []) = ap (λ m. (m, p.1)) number ∙ ap (λ rs. (q.0, rs)) (receipts ∙ ap (λ s. q.1 ++ s ∷ []) index) in
    let now = at ∙ ap Some whole in (
      (λ call. (of_more eqc eqr es e ps i q r now (subst (λ s. IsCall eqc eqr q.0 s e) index call), (λ b. (of_less eqc eqr es e ps i q r now b).0))),
      (λ other b. other (subst (λ s. IsCall eqc eqr q.0 s e) (sym index) (of_less eqc eqr es e ps i q r now b).1)),
    )

-- ---- no entries
-- Passes belong to the history without entries if none has a receipt.
pub of_nil : {C R : Type 0} (eqc : C → C → Bool) (eqr : R → R → Bool) (ps : List (ℕ × List (ℕ × C × R))) → All (λ p. p.1 ≡ []) ps → AreOf eqc eqr ps []
of_nil {C} {R} eqc eqr ps h = record {
  once = λ i. let z : receipts_at i ps ≡ 0 = sum_zero _ ps (λ k d lt. ap (receipts_for i) (h k d lt)) in omega (arith, z);
  right = λ k d lt. subst (All (IsAtIndex eqc eqr [] (get_or ps k d).0)) (sym (h k d lt)) (All-nil _);
  rising = λ k d lt. subst Rises (sym (h k d lt)) (λ i j c before within. absurd (omega (arith, within)));
}

-- If the history is empty, no pass has a receipt.
pub none_of_nil : {C R : Type 0} (eqc : C → C → Bool) (eqr : R → R → Bool) (ps : List (ℕ × List (ℕ × C × R))) → AreOf eqc eqr ps [] → All (λ p. p.1 ≡ []) ps
none_of_nil {C} {R} eqc eqr ps a k d lt = by (get_or ps k d).1 (a.right k d lt)
  where
    by : (rs : List (ℕ × C × R)) → All (IsAtIndex eqc eqr [] (get_or ps k d).0) rs → rs ≡ []
    by [] h = refl
    by (r ∷ rs) h = absurd (h 0 r (omega arith))
