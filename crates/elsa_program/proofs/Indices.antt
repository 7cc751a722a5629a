-- What is true for each index of a list and the item at it.
use Rattle.std.proofs.Common.{ℕ, List, [], ◌∷◌, ◌++◌, length, get_or, arith, subst, sym, below_more, length-append}
use Rattle.std.proofs.Math.ListN.{get_or-append}
use Rattle.std.proofs.Math.Seq.{get_or-append_seam}
use Rattle.elsa_program.specs.Workers.{Each}

-- An item is appended for which it is true too.
pub Each-push : {X : Type 0} (P : ℕ → X → Type 0) (xs : List X) (x : X) → Each P xs → P (length xs) x → Each P (xs ++ x ∷ [])
Each-push P xs x h here index other below =
    below_more (λ k. P k (get_or (xs ++ x ∷ []) k other)) (length xs)
    (λ k low. subst (P k) (sym (get_or-append xs (x ∷ []) other k low)) (h k other low))
    (subst (P (length xs)) (sym (get_or-append_seam xs x [] other)) here) index (omega (arith, below, length-append xs (x ∷ [])))
