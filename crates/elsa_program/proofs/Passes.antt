-- Views that were merged, and views at a later time.
use Rattle.std.proofs.Common.{◌≡◌, ℕ, ◌≤◌, ◌∙◌, List, ◌++◌, length, ap, sym, append_assoc, arith, length-append}
use mathlib.Core.List.{IsPrefix}
use Rattle.std.proofs.lemmas.Bool.Decides.{nat_tests}
use Rattle.elsa_lock_free.specs.declared.event.Entry.{Entry}
use Rattle.elsa_lock_free.specs.SharedList.{Continues, Vector, View, longer}

-- A prefix of a prefix is a prefix.
pub prefix_more : {X : Type 0} (xs ys zs : List X) → IsPrefix xs ys → IsPrefix ys zs → IsPrefix xs zs
prefix_more xs ys zs (more, ys_is) (rest, zs_is) = (more ++ rest, sym (append_assoc xs more rest) ∙ (ap (λ (l : List _). l ++ rest) ys_is ∙ zs_is))

-- A prefix is at most as long as the list.
pub prefix_within : {X : Type 0} (xs ys : List X) → IsPrefix xs ys → length xs ≤ length ys
prefix_within xs ys (more, is) = omega (arith, length-append xs more, ap (λ (l : List _). length l) is)

module _ {T : Type 0} where
  -- If the second of two lists isn't longer, the longer one is the first.
  pub first_is_longer : (xs ys : List (Entry T)) → length ys ≤ length xs → longer xs ys ≡ xs
  first_is_longer xs ys within = grind (arith, nat_tests)

  abbrev view : Vector → ℕ → List (Entry T) → View T
  view vector writer seen = record { vector = vector; writer = writer; seen = seen }

  -- Two views with the same vector, writer and observed prefix are equal.
  pub same_view : (p q : View T) → q.vector ≡ p.vector → q.writer ≡ p.writer → q.seen ≡ p.seen → q ≡ p
  same_view p q vector writer seen =
      ap (λ (v : Vector). view v q.writer q.seen) vector ∙ (ap (λ (a : ℕ). view p.vector a q.seen) writer ∙ ap (λ (es : List (Entry T)). view p.vector p.writer es) seen)

  -- Continuing is transitive.
  pub continues_more : (p q r : View T) → Continues p q → Continues q r → Continues p r
  continues_more p q r (one, begins, mine) (next, goes_on, still) =
      ((next.0 ∙ one.0, next.1 ∙ one.1), prefix_more p.seen q.seen r.seen begins goes_on, still ∙ mine)
