-- Too many or too few words for a job.
use Rattle.std.proofs.Common.{◌≡◌, ℕ, ◌<◌, ◌≤◌, List, [], ◌∷◌, length, map, None, refl, arith}
use Rattle.elsa_program.specs.Jobs.{job_of}

-- Two words are not a job.
pub two_words : {X : Type 0} (f : X → List ℕ) (xs : List X) → 2 ≤ length xs → length xs < 3 → None ≡ job_of (map f xs)
two_words f [] h k = absurd (omega arith)
two_words f (x ∷ []) h k = absurd (omega arith)
two_words f (x ∷ y ∷ []) h k = refl
two_words f (x ∷ y ∷ z ∷ zs) h k = absurd (omega arith)

-- Four or more words are not a job.
pub four_words : {X : Type 0} (f : X → List ℕ) (xs : List X) → 4 ≤ length xs → None ≡ job_of (map f xs)
four_words f [] h = absurd (omega arith)
four_words f (x ∷ []) h = absurd (omega arith)
four_words f (x ∷ y ∷ []) h = absurd (omega arith)
four_words f (x ∷ y ∷ z ∷ []) h = absurd (omega arith)
four_words f (x ∷ y ∷ z ∷ w ∷ zs) h = refl
