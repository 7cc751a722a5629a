-- Steps for the items of a list, one after the other, as a loop makes them.
use Rattle.std.proofs.Common.{◌≡◌, ℕ, ◌+◌, ◌-◌, Result, List, [], ◌∷◌, ◌++◌, length, refl, subst, sym, ap, ◌∙◌, append_assoc, append-nil, arith}
use Rattle.std.specs.Result.{IfErr, IsErrAnd}
use Rattle.std.proofs.lemmas.List.{length_push}
use Rattle.std.proofs.lemmas.Result.{err_from_is_err_and}
use Rattle.elsa_serde.specs.Read.{InTurn}
use Rattle.elsa_serde.specs.Loaded.{Stops}
use Rattle.elsa_serde.specs.declared.fault.ReadFault.{ReadFault}
use Rattle.elsa_serde.specs.declared.fault.ReadFault.TheVariants.{Duplicate, TooMany, Memory}

-- A step for another item.
pub in_turn_more : {S X : Type 0} (step : S → X → S → Type 0) (xs : List X) (x : X) (old mid new : S) → InTurn step old xs mid → step mid x new → InTurn step old (xs ++ x ∷ []) new
in_turn_more step [] x old mid new is made = (new, subst (λ m. step m x new) is made, refl)
in_turn_more step (y ∷ ys) x old mid new went made = (went.0, went.1, in_turn_more step ys x went.0 mid new went.2 made)

-- The same, for a list that is the items and another one at its end.
pub in_turn_push : {S X : Type 0} (step : S → X → S → Type 0) (xs ys : List X) (x : X) (old mid new : S) → ys ≡ xs ++ x ∷ [] → InTurn step old xs mid → step mid x new → InTurn step old ys new
in_turn_push step xs ys x old mid new is went made = subst (λ zs. InTurn step old zs new) (sym is) (in_turn_more step xs x old mid new went made)

-- Without an item, nothing changes.
pub in_turn_none : {S X : Type 0} (step : S → X → S → Type 0) (xs : List X) (old : S) → xs ≡ [] → InTurn step old xs old
in_turn_none step xs old none = subst (λ zs. InTurn step old zs old) (sym none) refl

-- The items of `all` before `rest` were inserted, and the size grew by their number.
abbrev pub UpTo : {S X : Type 0} → (S → X → S → Type 0) → (S → ℕ) → List X → List X → S → S → Type 0
UpTo {X = X} step size all rest old new = (done : List X) × (all ≡ done ++ rest) × InTurn step old done new × (size new ≡ size old + length done)

-- At the start, none was inserted.
pub up_to_start : {S X : Type 0} (step : S → X → S → Type 0) (size : S → ℕ) (all rest : List X) (old : S) → rest ≡ all → UpTo step size all rest old old
up_to_start step size all rest old same = ([], sym same, refl, omega arith)

-- The next item was inserted.
pub up_to_more : {S X : Type 0} (step : S → X → S → Type 0) (size : S → ℕ) (all rest left : List X) (x : X) (old mid new : S) → UpTo step size all rest old mid → rest ≡ x ∷ left → step mid x new → size new ≡ size mid + 1 → UpTo step size all left old new
up_to_more step size all rest left x old mid new before next made grew =
    let longer = length_push before.0 x in
    let sum = before.3 in (
      before.0 ++ x ∷ [],
      before.1 ∙ ap (λ ys. before.0 ++ ys) next ∙ sym (append_assoc before.0 (x ∷ []) left),
      in_turn_more step before.0 x old mid new before.2 made,
      omega (arith, longer, sum, grew),
    )

-- If nothing is left, all items were inserted.
pub up_to_all : {S X : Type 0} (step : S → X → S → Type 0) (size : S → ℕ) (all rest : List X) (old new : S) → UpTo step size all rest old new → rest ≡ [] → InTurn step old all new
up_to_all step size all rest old new before none =
    subst (λ ys. InTurn step old ys new) (sym (before.1 ∙ ap (λ ys. before.0 ++ ys) none ∙ append-nil before.0)) before.2

-- The content after an item that failed, by what is known about the failure.
pub up_to_stops : {S X : Type 0} (step : S → X → S → Type 0) (size : S → ℕ) (present : S → X → Type 0) (full : S → Type 0) (all rest left : List X) (x : X) (old mid new : S) (fault : ReadFault)
    → UpTo step size all rest old mid → rest ≡ x ∷ left → new ≡ mid
    → ((index : ℕ) → fault ≡ Duplicate index → (index ≡ size mid - size old) × present mid x) → (fault ≡ TooMany → full mid)
    → Stops step present full old all fault new
up_to_stops step size present full all rest left x old mid new (Duplicate index) before next same duplicate too_many =
    let sum = before.3 in
    let at = (duplicate index refl).0 in (
      before.0,
      x,
      (left, before.1 ∙ ap (λ ys. before.0 ++ ys) next, subst (λ m. InTurn step old before.0 m) (sym same) before.2),
      omega (arith, sum, at),
      subst (λ m. present m x) (sym same) (duplicate index refl).1,
    )
up_to_stops step size present full all rest left x old mid new TooMany before next same duplicate too_many =
    (before.0, x, (left, before.1 ∙ ap (λ ys. before.0 ++ ys) next, subst (λ m. InTurn step old before.0 m) (sym same) before.2), subst full (sym same) (too_many refl))
up_to_stops step size present full all rest left x old mid new Memory before next same duplicate too_many =
    (before.0, x, (left, before.1 ∙ ap (λ ys. before.0 ++ ys) next, subst (λ m. InTurn step old before.0 m) (sym same) before.2))

-- The result of a loop's `?`, if P holds for the fault.
pub at_fault : {T : Type 0} (r : Result T ReadFault) (f : ReadFault) (P : ReadFault → Type 0) → IsErrAnd r (λ y. y ≡ f) → P f → IfErr r P
at_fault r f P made holds =
    let p = err_from_is_err_and r made in
    subst (λ q. IfErr q P) (sym p.1) (subst P (sym p.2) holds)
