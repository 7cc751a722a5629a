-- A comparison of two lists, one pair at a time.
use Rattle.std.proofs.Common.{◌≡◌, ℕ, zero, suc, Bool, List, [], ◌∷◌, ◌&&◌, drop, slice_get, Some, ap, ◌∙◌}
use lib.Pointwise.{pointwise}

-- a comparison from index i compares the pair at i, and then the later pairs
pub pointwise_step : {A : Type 0} (E : A → A → Bool) (xs ys : List A) (i : ℕ) (x y : A) → slice_get xs i ≡ Some x → slice_get ys i ≡ Some y
    → pointwise E (drop i xs) (drop i ys) ≡ (E x y && pointwise E (drop (suc i) xs) (drop (suc i) ys))
pointwise_step E [] ys i x y p q = absurd (cc p)
pointwise_step E (a ∷ xs) [] i x y p q = absurd (cc q)
pointwise_step E (a ∷ xs) (b ∷ ys) zero x y p q = let s : a ≡ x = cc p in let t : b ≡ y = cc q in ap (λ z. E z b && pointwise E xs ys) s ∙ ap (λ z. E x z && pointwise E xs ys) t
pointwise_step E (a ∷ xs) (b ∷ ys) (suc i) x y p q = pointwise_step E xs ys i x y p q
