-- A binary search: what is known between two calls, and what a call adds.
use Rattle.std.proofs.Common.{◌≡◌, ℕ, ◌+◌, ◌-◌, ◌*◌, ◌/◌, ◌<◌, ◌≤◌, ◌^◌, ◌⊎◌, inl, inr, List, [], ◌∷◌, Some, length, get_or, slice_get, arith, refl, subst, suc, sym}
use Rattle.std.proofs.Math.Nat.{pow-suc, mul-le-mul_left}
use Rattle.std.proofs.Math.Pow.{pow_mono}
use Rattle.std.proofs.lemmas.Option.{get_or_from_slice_get, slice_get_read}
use Rattle.elsa_arena.specs.Search.{Call, MadeInTurn, IsUnasked, Answered, IsBetween, IsWithinDigits, SearchedTo}

-- Each call was made for an index outside the range.
abbrev pub AllOutside : {R : Type 0} → ℕ → ℕ → List (Call R) → Type 0
AllOutside l r [] = Unit {0}
AllOutside l r (c ∷ cs) = (c.index < l ⊎ r ≤ c.index) × AllOutside l r cs

-- After these calls for a list of n items, the range from l to r is left.
pub record Narrowed {R : Type 0} (low high : R) (n l r : ℕ) (calls : List (Call R)) : Type 0 where
  pub outside : AllOutside l r calls
  pub halved : (r - l) * 2 ^ length calls ≤ n
  pub below : 0 < l → Answered calls (l - 1) low
  pub above : r < n → Answered calls r high
  pub ordered : l ≤ r
  pub within : r ≤ n

-- No call was made for an index in the range.
unasked : {R : Type 0} (l r m : ℕ) (cs : List (Call R)) → l ≤ m → m < r → AllOutside l r cs → IsUnasked m cs
unasked l r m [] p q o = tt
unasked l r m (c ∷ cs) p q o =
    ((λ e. elim o.0 [ inl h ↦ omega arith | inr h ↦ omega arith ]), unasked l r m cs p q o.1)

-- Calls outside a range are outside a narrower one.
narrower : {R : Type 0} (l r l' r' : ℕ) (cs : List (Call R)) → l ≤ l' → r' ≤ r → AllOutside l r cs → AllOutside l' r' cs
narrower l r l' r' [] p q o = tt
narrower l r l' r' (c ∷ cs) p q o =
    (elim o.0 [ inl h ↦ inl (omega arith) | inr h ↦ inr (omega arith) ], narrower l r l' r' cs p q o.1)

-- If the range was not empty, another call is within the number of digits.
one_more : (n k w : ℕ) → 0 < w → w * 2 ^ k ≤ n → IsWithinDigits n (suc k)
one_more n k w p h d q =
    let more : 2 ^ k * 1 ≤ 2 ^ k * w = mul-le-mul_left (2 ^ k) p in
    let mono : d ≤ k → 2 ^ d ≤ 2 ^ k = pow_mono in
    grind (arith, mono)

-- Halving the range allows for another call.
half : (n k w w' : ℕ) → w' * 2 ≤ w → w * 2 ^ k ≤ n → w' * 2 ^ suc k ≤ n
half n k w w' p h =
    let more : 2 ^ k * (w' * 2) ≤ 2 ^ k * w = mul-le-mul_left (2 ^ k) p in
    rw pow-suc (omega arith)

-- An item that was read at an index is the one there.
pub read_at : {B : Type 0} (items : List B) (i : ℕ) (item : B) → slice_get items i ≡ Some item → item ≡ get_or items i item
read_at items i item at = sym (get_or_from_slice_get items i item item at)

-- Before the first call, the range is the whole list.
pub narrowed_at_start : {F B R : Type 0} (step : F → B → R → F → Type 0) (low high : R) (items : List B) (start : F) → SearchedTo step items start start (Narrowed low high (length items) 0 (length items))
narrowed_at_start step low high items start = (
  record {
    calls = [];
    end = start;
    in_turn = refl;
    none_twice = tt;
    few = λ d h. omega arith;
    bracket = record { outside = tt; halved = omega arith; below = λ h. absurd (omega arith); above = λ h. absurd (omega arith); ordered = omega arith; within = omega arith };
  },
  refl,
)

-- A call for the middle of a range that is not empty.
module _ {F B R : Type 0} (step : F → B → R → F → Type 0) (low high : R) (items : List B) (start now next : F) (l r : ℕ) (item : B)
    (known : SearchedTo step items start now (Narrowed low high (length items) l r)) (open_range : l < r) (read : item ≡ get_or items (l + (r - l) / 2) item) where
  abbrev middle : ℕ
  middle = l + (r - l) / 2

  abbrev before : List (Call R)
  before = known.0.calls

  so_far : Narrowed low high (length items) l r before
  so_far = known.0.bracket

  -- Whatever it returns, it was made in turn.
  pub after_call : (answer : R) (P : List (Call R) → Type 0) → step now item answer next → P (record { index = middle; answer = answer } ∷ before) → SearchedTo step items start next P
  after_call answer P s p = (
    record {
      calls = record { index = middle; answer = answer } ∷ before;
      end = next;
      in_turn = (now, item, subst (MadeInTurn step items start before) known.1 known.0.in_turn, slice_get_read items (length items) middle item refl (omega (arith, so_far.within)) read, s);
      none_twice = (unasked l r middle before (omega arith) (omega arith) so_far.outside, known.0.none_twice);
      few = one_more (length items) (length before) (r - l) (omega arith) so_far.halved;
      bracket = p;
    },
    refl,
  )

  -- A result after which the range is above the middle.
  pub after_low : step now item low next → SearchedTo step items start next (Narrowed low high (length items) (middle + 1) r)
  after_low s =
      after_call low (Narrowed low high (length items) (middle + 1) r) s
      record {
        outside = (inl (omega arith), narrower l r (middle + 1) r before (omega arith) (omega arith) so_far.outside);
        halved = half (length items) (length before) (r - l) (r - (middle + 1)) (omega arith) so_far.halved;
        below = λ p. inl (omega arith, refl);
        above = λ p. inr (so_far.above p);
        ordered = omega arith;
        within = so_far.within;
      }

  -- A result after which the range is below the middle.
  pub after_high : step now item high next → SearchedTo step items start next (Narrowed low high (length items) l middle)
  after_high s =
      after_call high (Narrowed low high (length items) l middle) s
      record {
        outside = (inr (omega arith), narrower l r l middle before (omega arith) (omega arith) so_far.outside);
        halved = half (length items) (length before) (r - l) (middle - l) (omega arith) so_far.halved;
        below = λ p. inr (so_far.below p);
        above = λ p. inl (refl, refl);
        ordered = omega arith;
        within = omega (arith, so_far.within);
      }

-- If the range is empty, the search has ended at its index.
pub narrowed_to_end : {F B R : Type 0} (step : F → B → R → F → Type 0) (low high : R) (items : List B) (start now : F) (l r : ℕ)
    → SearchedTo step items start now (Narrowed low high (length items) l r) → r ≤ l → SearchedTo step items start now (λ calls. IsBetween (length items) (Answered calls) low high l)
narrowed_to_end step low high items start now l r (found, ends) empty =
    let known = found.bracket in
    let here : r ≡ l = omega (arith, known.ordered, empty) in (
      record {
        calls = found.calls;
        end = found.end;
        in_turn = found.in_turn;
        none_twice = found.none_twice;
        few = found.few;
        bracket = (omega (arith, known.ordered, known.within), known.below, subst (λ k. k < length items → Answered found.calls k high) here known.above);
      },
      ends,
    )
