-- Facts that hold of each item of a list.
use Rattle.std.proofs.Common.{◌≡◌, ◌≤◌, ◌⊎◌, ℕ, inl, inr, List, [], ◌∷◌, ◌++◌, length, slice_get, Some, sym, subst}
use Rattle.elsa_slots.proofs.ListLemmas.Pushed.{get_push}
use Rattle.elsa_arena.specs.Observed.{EachHolds}

module _ {T : Type 0} (holds : T → Type 0) where
  -- A list gets an item of which the fact holds.
  pub each_pushed : (old new : List T) (x : T) → EachHolds holds old → holds x → new ≡ old ++ x ∷ [] → EachHolds holds new
  each_pushed old new x each held grown i y at = elim (get_push old x i y (subst (λ l. slice_get l i ≡ Some y) grown at)) [
    | inl before ↦ each i y before
    | inr last ↦ subst holds last.1 held
  ]

  -- A list is one of two.
  pub each_of_one : (this that new : List T) → (new ≡ this) ⊎ (new ≡ that) → EachHolds holds this → EachHolds holds that → EachHolds holds new
  each_of_one this that new (inl e) first second = subst (EachHolds holds) (sym e) first
  each_of_one this that new (inr e) first second = subst (EachHolds holds) (sym e) second

-- A list that is one of two is at most as long.
pub length_of_one : {T : Type 0} (most : ℕ) (this that new : List T) → (new ≡ this) ⊎ (new ≡ that) → length this ≤ most → length that ≤ most → length new ≤ most
length_of_one most this that new (inl e) first second = subst (λ l. length l ≤ most) (sym e) first
length_of_one most this that new (inr e) first second = subst (λ l. length l ≤ most) (sym e) second
