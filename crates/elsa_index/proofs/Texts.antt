-- A stored text that a look-up by a text finds has its bytes.
use Rattle.std.proofs.Common.{◌≡◌, ℕ, Bool, true, false, List, [], ◌∷◌, Some, find, cond, refl, subst, sym}
use Rattle.std.proofs.lemmas.Option.{none-some, same_Some}
use Rattle.std.specs.Borrow.{Bor}
use Rattle.std.specs.Cmp.Lexicographic.{same_text}
use Rattle.elsa_index.specs.Texts.{reads}

-- The value that a look-up by a test finds passes the test.
found_passes : {X : Type 0} (test : X → Bool) (xs : List X) (x : X) → find test xs ≡ Some x → test x ≡ true
found_passes test [] x found = absurd (none-some x found)
found_passes {X} test (y ∷ ys) x found = by (test y) refl (found_passes test ys x) found
  where
    by : (b : Bool) → test y ≡ b → (find test ys ≡ Some x → test x ≡ true) → cond b (Some y) (find test ys) ≡ Some x → test x ≡ true
    by true passes later is = subst (λ z. test z ≡ true) (same_Some y x is) passes
    by false fails later is = later is

-- The text that is found is the text of the look-up.
pub found_text : (text : List ℕ) (kept : List (Bor (List ℕ))) (b : Bor (List ℕ)) → find (reads text) kept ≡ Some b → b.now ≡ text
found_text text kept b found = sym (same_text text b.now (sym (found_passes (reads text) kept b found)))
