-- The results of the interner's calls, as replies.
use Rattle.std.proofs.Common.{◌≡◌, ℕ, true, false, List, [], ◌∷◌, ◌++◌, length, codes, Option, Some, None, ap, position, inl, refl}
use Rattle.std.proofs.lemmas.Bool.{eq-eqb, ne_eqb}
use Rattle.std.specs.Prelude.{MatchOption}
use Rattle.std.specs.Str.{bytes_eq}
use Rattle.std.specs.Fmt.{decimal}
use Rattle.elsa_interner.specs.Names.{IsFull, Puts}
use Rattle.elsa_program.specs.Lines.{Replies, is_full, put, number_put, with_name}

-- The reply and the names after a `put`, by the index that the text had.
by_index : (names after : List (List ℕ)) (text : List ℕ) (n : ℕ) (p : Option ℕ) → (p ≡ None → IsFull names → ⊥)
    → MatchOption p ((n ≡ length names) × (after ≡ names ++ text ∷ [])) (λ i. (n ≡ i) × (after ≡ names)) → (decimal n ≡ number_put names p) × (after ≡ with_name names text p)
by_index names after text n None room h =
    let has_room : is_full names ≡ false = ne_eqb _ _ (room refl) in
    rw has_room (ap decimal h.0, h.1)
by_index names after text n (Some i) room h = (ap decimal h.0, h.1)

-- The reply to a `put` that succeeded is the digits of the number.
pub put_replies : (names after : List (List ℕ)) (text : List ℕ) (n : ℕ) → (position (bytes_eq text) names ≡ None → IsFull names → ⊥) → Puts names text n after
    → Replies names (put text) (decimal n) after
put_replies names after text n room h = inl (by_index names after text n (position (bytes_eq text) names) room h)

-- If there are 2^32 - 1 names, the reply to a new one is `too many names`.
pub full_replies : (names after : List (List ℕ)) (text : List ℕ) → position (bytes_eq text) names ≡ None → IsFull names → after ≡ names
    → Replies names (put text) (codes "too many names") after
full_replies names after text new full same =
    let no_room : is_full names ≡ true = eq-eqb _ _ full in
    inl (rw new (rw no_room (refl, same)))
