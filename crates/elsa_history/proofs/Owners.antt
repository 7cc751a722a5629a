-- Lemmas about the list that records which pass has the receipt for an index.
use Rattle.std.proofs.Common.{◌≡◌, ◌∙◌, ◌+◌, ◌-◌, ◌<◌, ◌≤◌, ◌==◌, ◌≢◌, ap, ℕ, zero, suc, cond, All, List, [], ◌∷◌, length, get_or, slice_get, set, take, Some, subst, arith}
use Rattle.std.proofs.lemmas.List.{take_more}
use Rattle.std.proofs.lemmas.List.Sums.{sum_by-set, sum_by_push}
use Rattle.std.proofs.lemmas.Option.{get_or_from_slice_get, slice_get-get_or, slice_get_within}
use Rattle.elsa_history.specs.Receipts.{receipts_for, receipts_at, EndsElsewhere, IsTakenFrom}
use Rattle.elsa_history.proofs.Receipts.{each_zero, test_at, test_off}

-- A number that isn't counted is another number.
other : (k n : ℕ) → ◌≡◌ {A = ℕ} (cond (k == n) 1 0) 0 → k ≢ n
other k n off same = let on = test_at k n same in absurd (omega (arith, off, on))

-- A pass that has no receipt for an index doesn't end at it.
ends_elsewhere : {C R : Type 0} (index : ℕ) (rs : List (ℕ × C × R)) → receipts_for index rs ≡ 0 → EndsElsewhere index rs
ends_elsewhere index [] none = tt
ends_elsewhere index (r ∷ rs) none =
    rw (slice_get-get_or (r ∷ rs) (length (r ∷ rs) - 1) r (omega arith)) (other (get_or (r ∷ rs) (length (r ∷ rs) - 1) r).0 index (each_zero (λ s. cond (s.0 == index) 1 0) (r ∷ rs) none (length (r ∷ rs) - 1) r (omega arith)))

-- If no pass has a receipt for an index, none ends at it.
pub none_ends : {C R : Type 0} (index : ℕ) (ps : List (ℕ × List (ℕ × C × R))) → receipts_at index ps ≡ 0 → All (λ p. EndsElsewhere index p.1) ps
none_ends index ps none k d lt = ends_elsewhere index (get_or ps k d).1 (each_zero (λ p. receipts_for index p.1) ps none k d lt)

-- If a receipt is removed from a pass, no index has more receipts than before.
pub taken_fewer : {C R : Type 0} (ps : List (ℕ × List (ℕ × C × R))) (i : ℕ) (p q : ℕ × List (ℕ × C × R)) (n : ℕ) (r : C × R) → slice_get ps i ≡ Some p → IsTakenFrom n r p q
    → (other : ℕ) → receipts_at other (set ps i q) ≤ receipts_at other ps
taken_fewer ps i p q n r at taken other =
    let moved = sum_by-set (λ pass. receipts_for other pass.1) ps i q p (slice_get_within ps i p at) in
    let one : receipts_for other (get_or ps i p).1 ≡ receipts_for other q.1 + cond (n == other) 1 0 =
    ap (λ pass. receipts_for other pass.1) (get_or_from_slice_get ps i p p at) ∙ ap (receipts_for other) taken.1 ∙ sum_by_push (λ s. cond (s.0 == other) 1 0) q.1 (n, r.0, r.1) in
    omega (arith, moved, one)

-- If an index still has the number `nobody` after an owner was recorded, it had that number before,
-- and the owner was recorded at another index.
pub noted : (owners : List ℕ) (at owner nobody index : ℕ) → owner < nobody → slice_get (set owners at owner) index ≡ Some nobody → (slice_get owners index ≡ Some nobody) × (at ≢ index)
noted [] at owner nobody index less h = let none = h in absurd (gone none)
  where
    gone : slice_get {X = ℕ} [] index ≡ Some nobody → ⊥
    gone e = cc
noted (x ∷ xs) zero owner nobody zero less h = absurd (over (inside h))
  where
    inside : Some owner ≡ Some nobody → owner ≡ nobody
    inside e = cc

    over : owner ≡ nobody → ⊥
    over e = omega (arith, less, e)
noted (x ∷ xs) zero owner nobody (suc index) less h = (h, λ e. omega (arith, e))
noted (x ∷ xs) (suc at) owner nobody zero less h = (h, λ e. omega (arith, e))
noted (x ∷ xs) (suc at) owner nobody (suc index) less h =
    let rest = noted xs at owner nobody index less h in (rest.0, λ e. rest.1 (omega (arith, e)))

-- Another receipt, which is for another index.
pub one_more : {C R : Type 0} (index : ℕ) (rs : List (ℕ × C × R)) (i : ℕ) (r : ℕ × C × R) → i < length rs → r ≡ get_or rs i r → receipts_for index (take i rs) ≡ 0 → r.0 ≢ index → receipts_for index (take (i + 1) rs) ≡ 0
one_more index rs i r lt is none off =
    let one = ap (receipts_for index) (take_more rs i r lt) ∙ sum_by_push (λ s. cond (s.0 == index) 1 0) (take i rs) (get_or rs i r) in
    let zero = subst (λ s. ◌≡◌ {A = ℕ} (cond (s.0 == index) 1 0) 0) is (test_off r.0 index off) in
    omega (arith, one, none, zero)

-- Another pass, which has no receipt for the index.
pub one_pass_more : {C R : Type 0} (index : ℕ) (ps : List (ℕ × List (ℕ × C × R))) (i : ℕ) (p : ℕ × List (ℕ × C × R)) → slice_get ps i ≡ Some p → receipts_at index (take i ps) ≡ 0 → receipts_for index p.1 ≡ 0 → receipts_at index (take (i + 1) ps) ≡ 0
one_pass_more index ps i p at none mine =
    ap (receipts_at index) (take_more ps i p (slice_get_within ps i p at)) ∙ sum_by_push (λ pass. receipts_for index pass.1) (take i ps) (get_or ps i p)
    ∙ omega (arith, none, ap (λ pass. receipts_for index pass.1) (get_or_from_slice_get ps i p p at), mine)

-- An index at or above the length is not recorded.
pub past_end : {X : Type 0} (xs : List X) (at index : ℕ) (x : X) → length xs ≤ at → slice_get xs index ≡ Some x → at ≢ index
past_end xs at index x past h same = let within = slice_get_within xs index x h in absurd (omega (arith, past, within, same))
