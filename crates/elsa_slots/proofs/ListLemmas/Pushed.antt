-- A list after an append.
use Rattle.std.proofs.Common.{◌≡◌, ◌⊎◌, ℕ, zero, suc, List, [], ◌∷◌, ◌++◌, length, slice_get, Some, refl, ap, inl, inr, rules}

-- An entry of a list after an append is an old one or the appended one.
pub get_push : {A : Type 0} (xs : List A) (y : A) (k : ℕ) (z : A) → slice_get (xs ++ y ∷ []) k ≡ Some z → (slice_get xs k ≡ Some z) ⊎ ((k ≡ length xs) × (y ≡ z))
get_push [] y zero z h = inr (refl, cc)
get_push [] y (suc k) z h = cc
get_push (x ∷ xs) y zero z h = inl h
get_push (x ∷ xs) y (suc k) z h = elim (get_push xs y k z h) [ inl e ↦ inl e | inr e ↦ inr (ap suc e.0, e.1) ]
