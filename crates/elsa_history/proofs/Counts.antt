-- Lemmas about counts: of the keys of a map's entries, and of the receipts of a history.
use Rattle.std.proofs.Common.{◌≡◌, ◌∙◌, ◌+◌, ◌<◌, ◌≤◌, ◌==◌, ◌≢◌, ◌⊎◌, ap, inl, inr, ℕ, zero, suc, Bool, cond, All, List, [], ◌∷◌, length, length-append, get_or, slice_get, set, Some, refl, sym, arith}
use Rattle.std.specs.Map.{keys_of}
use Rattle.std.proofs.Common.{Ordering}
use Rattle.std.specs.Ordering.{eq_by_cmp}
use Rattle.std.specs.List.Sorted.{IsStrictlySortedBy}
use Rattle.std.proofs.lemmas.Map.Keys.{IsDistinct-from_sorted}
use Rattle.std.specs.List.{IsDistinct, sum_by}
use Rattle.std.proofs.lemmas.Map.Made.{is_some-lookup}
use Rattle.std.proofs.lemmas.List.{length-map}
use Rattle.std.proofs.lemmas.List.Sums.{sum_by-cons, sum_by-set}
use Rattle.std.proofs.lemmas.Option.{get_or_from_slice_get, slice_get_within}
use Rattle.std.proofs.lemmas.Bool.{cases_lt}
use Rattle.elsa_tables.specs.FirstWins.{value_at, HasCount}
use Rattle.elsa_history.specs.Receipts.{receipts_for, receipts_at, receipt_count, AreReceipts, AreOf, LacksAReceipt, IsTakenFrom}
use Rattle.elsa_history.proofs.Receipts.{each_below, sum_zero, test_at, test_off}

-- The number of a map's entries is that of its keys, which are distinct.
pub has_count : {K V : Type 0} (eq : K → K → Bool) (es : List (K × V)) → IsDistinct eq (keys_of es) → HasCount eq (value_at eq es) (length es)
has_count eq es d = (keys_of es, (d, λ q. is_some-lookup (eq q) es), length-map es (λ e. e.0))

-- Strictly sorted keys are distinct, so the same is true for an ordered map.
pub has_count_sorted : {K V : Type 0} (cmp : K → K → Ordering) (es : List (K × V)) → IsStrictlySortedBy cmp (keys_of es) → HasCount (eq_by_cmp cmp) (value_at (eq_by_cmp cmp) es) (length es)
has_count_sorted cmp es s = has_count (eq_by_cmp cmp) es (IsDistinct-from_sorted cmp (keys_of es) s)

-- The sum of f below n.
total : (ℕ → ℕ) → ℕ → ℕ
total f zero = 0
total f (suc n) = total f n + f n

total_zero : (f : ℕ → ℕ) (n : ℕ) → ((i : ℕ) → i < n → f i ≡ 0) → total f n ≡ 0
unfolding total
total_zero f zero h = refl
total_zero f (suc n) h = let a : total f n ≡ 0 = total_zero f n (λ i l. h i (omega arith)) in let b : f n ≡ 0 = h n (omega arith) in omega arith

total_add : (f g h : ℕ → ℕ) (n : ℕ) → ((i : ℕ) → h i ≡ f i + g i) → total h n ≡ total f n + total g n
unfolding total
total_add f g h zero e = refl
total_add f g h (suc n) e = let a : total h n ≡ total f n + total g n = total_add f g h n e in let b : h n ≡ f n + g n = e n in omega arith

-- An index is counted once.
total_at : (k n : ℕ) → k < n → total (λ i. cond (k == i) 1 0) n ≡ 1
unfolding total
total_at k zero l = absurd (omega arith)
total_at k (suc n) l = elim (cases_lt k n) [
  | inl a ↦ let s : total (λ i. cond (k == i) 1 0) n ≡ 1 = total_at k n a in let t : ◌≡◌ {A = ℕ} (cond (k == n) 1 0) 0 = test_off k n (omega arith) in omega arith
  | inr b ↦ let s : total (λ i. cond (k == i) 1 0) n ≡ 0 = total_zero _ n (λ i m. test_off k i (omega arith)) in let t : ◌≡◌ {A = ℕ} (cond (k == n) 1 0) 1 = test_at k n (omega arith) in omega arith
]

-- The sum over the indices of the sums over a list is the sum of each item's total.
total_sum : {X : Type 0} (f : ℕ → X → ℕ) (g : X → ℕ) (n : ℕ) (xs : List X) → All (λ x. total (λ i. f i x) n ≡ g x) xs → total (λ i. sum_by (f i) xs) n ≡ sum_by g xs
total_sum f g n [] h = total_zero _ n (λ i l. refl)
total_sum f g n (x ∷ xs) h =
    let added = total_add (λ i. f i x) (λ i. sum_by (f i) xs) (λ i. sum_by (f i) (x ∷ xs)) n (λ i. sum_by-cons (f i) x xs) in
    let here : total (λ i. f i x) n ≡ g x = h 0 x (omega arith) in
    let rest : total (λ i. sum_by (f i) xs) n ≡ sum_by g xs = total_sum f g n xs (λ k d lt. h (suc k) d (omega (arith, lt))) in
    omega (arith, added, here, rest, sum_by-cons g x xs)

ones : {X : Type 0} (xs : List X) → sum_by (λ x. 1) xs ≡ length xs
ones [] = refl
ones (x ∷ xs) = omega (arith, sum_by-cons (λ y. 1) x xs, ones xs)

passes_total : {C R : Type 0} (n : ℕ) (ps : List (ℕ × List (ℕ × C × R))) → All (λ p. All (λ r. r.0 < n) p.1) ps → total (λ i. receipts_at i ps) n ≡ receipt_count ps
passes_total n ps h = total_sum (λ i p. receipts_for i p.1) _ n ps (λ k d lt.
    let rs = (get_or ps k d).1 in
    total_sum (λ i r. cond (r.0 == i) 1 0) (λ r. 1) n rs (λ j c less. total_at (get_or rs j c).0 n (h k d lt j c less)) ∙ ones rs)

-- For n counts of at most 1: their sum is n and each is 1, or their sum is less and one is 0.
full_or_gap : (f : ℕ → ℕ) (n : ℕ) → ((i : ℕ) → f i ≤ 1) → ((total f n ≡ n) × ((i : ℕ) → i < n → f i ≡ 1)) ⊎ ((total f n < n) × (i : ℕ) × (i < n) × (f i ≡ 0))
unfolding total
full_or_gap f zero most = inl (refl, λ i l. absurd (omega (arith, l)))
full_or_gap f (suc n) most = by (full_or_gap f n most)
  where
    here : f n ≤ 1
    here = most n

    by : ((total f n ≡ n) × ((i : ℕ) → i < n → f i ≡ 1)) ⊎ ((total f n < n) × (i : ℕ) × (i < n) × (f i ≡ 0)) → ((total f n + f n ≡ suc n) × ((i : ℕ) → i < suc n → f i ≡ 1)) ⊎ ((total f n + f n < suc n) × (i : ℕ) × (i < suc n) × (f i ≡ 0))
    by (inr (less, i, low, none)) = inr (omega (arith, less, here), i, omega (arith, low), none)
    by (inl (full, each)) = elim (cases_lt (f n) 1) [
      | inl none ↦ inr (omega (arith, full, none), n, omega arith, omega (arith, none))
      | inr one ↦ inl (
        omega (arith, full, one, here),
        λ i l. elim (cases_lt i n) [
          | inl k ↦ each i k
          | inr k ↦ let last : i ≡ n = omega (arith, k, l) in ap f last ∙ omega (arith, one, here)
        ],
      )
    ]

-- The number of receipts of passes without receipts is 0.
pub count_nil : {C R : Type 0} (ps : List (ℕ × List (ℕ × C × R))) → All (λ p. p.1 ≡ []) ps → receipt_count ps ≡ 0
count_nil ps h = sum_zero _ ps (λ k d lt. ap (λ rs. length rs) (h k d lt))

-- If a receipt is removed from a pass, the number of receipts decreases by 1.
pub count_set : {C R : Type 0} (ps : List (ℕ × List (ℕ × C × R))) (i : ℕ) (p q : ℕ × List (ℕ × C × R)) (n : ℕ) (r : C × R) → slice_get ps i ≡ Some p → IsTakenFrom n r p q → receipt_count (set ps i q) + 1 ≡ receipt_count ps
count_set ps i p q n r at taken =
    let moved = sum_by-set (λ pass. length pass.1) ps i q p (slice_get_within ps i p at) in
    let one : length (get_or ps i p).1 ≡ length q.1 + 1 = ap (λ pass. length pass.1) (get_or_from_slice_get ps i p p at) ∙ ap (λ rs. length rs) taken.1 ∙ length-append q.1 ((n, r.0, r.1) ∷ []) in
    omega (arith, moved, one)

-- Receipts that belong to a history are the history if their number is that of its entries;
-- otherwise an entry has none.
module _ {C R : Type 0} (eqc : C → C → Bool) (eqr : R → R → Bool) (ps : List (ℕ × List (ℕ × C × R))) (es : List (ℕ × C × R)) (a : AreOf eqc eqr ps es) where
  sums : total (λ i. receipts_at i ps) (length es) ≡ receipt_count ps
  sums = passes_total (length es) ps (each_below eqc eqr es ps a.right)

  -- If the numbers are equal, the receipts are the history.
  pub all_receipts : receipt_count ps ≡ length es → AreReceipts eqc eqr ps es
  all_receipts h = elim (full_or_gap (λ i. receipts_at i ps) (length es) a.once) [
    | inl full ↦ record { once = full.1; right = a.right; rising = a.rising }
    | inr gap ↦ absurd (omega (arith, gap.0, sums, h))
  ]

  -- Otherwise an entry has no receipt.
  pub lacks_one : receipt_count ps ≢ length es → LacksAReceipt ps es
  lacks_one h = elim (full_or_gap (λ i. receipts_at i ps) (length es) a.once) [
    | inl full ↦ absurd (h (sym sums ∙ full.0))
    | inr gap ↦ (gap.1, gap.2, gap.3)
  ]
