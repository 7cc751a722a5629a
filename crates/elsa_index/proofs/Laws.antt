-- What stays of a content that grows, and what one insertion into a set leaves.
use Rattle.std.proofs.Common.{◌≡◌, ℕ, Bool, true, false, List, [], ◌∷◌, ◌++◌, length, position, refl, sym, ap, ◌∙◌, Option, None, Some, IsPermutation, IsTrue, ◌↔◌}
use Rattle.std.specs.Cmp.{IsEquivalence}
use Rattle.std.proofs.lemmas.List.Sorted.{list_any-IsPermutation}
use Rattle.elsa_index.specs.Equality.{same_set}
use Rattle.elsa_index.proofs.Equality.{same_set_decides}
use Rattle.elsa_maps.proofs.Indices.{index_of_last}

-- If a value that was not found is appended, it is found at the end.
pub set_index_added : {B V T : Type 0} (eq : B → B → Bool) (laws : IsEquivalence eq) (target : V → T) (shown : B → T) (finds : V → B → Bool) (finds_target : (v : V) (b k : B) → shown b ≡ target v → finds v k ≡ eq b k)
    (bs room : List B) (v : V) (i : ℕ) (b : B) (cs : List B) → room ≡ bs → position (finds v) bs ≡ None → i ≡ length room → shown b ≡ target v → cs ≡ room ++ b ∷ [] → position (finds v) cs ≡ Some i
set_index_added eq laws target shown finds finds_target bs room v i b cs kept none at is left = ap (position (finds v)) (left ∙ ap (λ l. l ++ b ∷ []) kept) ∙ index_of_last (finds v) bs b none (finds_target v b b is ∙ laws.refl b) ∙ ap Some (sym (at ∙ ap length kept))

-- The same values in another order are the same set.
pub same_set_in_any_order : {B : Type 0} (eq : B → B → Bool) (laws : IsEquivalence eq) (bs cs : List B) → IsPermutation bs cs → same_set eq bs cs ≡ true
same_set_in_any_order eq laws bs cs moved = (same_set_decides laws bs cs).1 (λ q. list_any-IsPermutation (eq q) bs cs moved)

-- A flag that is true only for a value without an index is false for a value with one.
not_new : (b : Bool) (o : Option ℕ) (i : ℕ) → IsTrue b ↔ (o ≡ None) → o ≡ Some i → b ≡ false
not_new false o i says at = refl
not_new true o i says at = let none = says.0 refl in absurd (cc)

-- If two values find the same, the second insertion returns the index and the value of the first
-- one, and `false`.
pub told_again : {X B : Type 0} (at was : (X → Bool) → Option ℕ) (value : (X → Bool) → ℕ → Option B) (t u : X → Bool) → u ≡ t → (i : ℕ) (b : B) (s : ℕ × B × Bool)
    → at t ≡ Some i → value t i ≡ Some b → was t ≡ Some i → at u ≡ Some s.0 → value u s.0 ≡ Some s.1 → IsTrue s.2 ↔ (was u ≡ None) → s ≡ (i, b, false)
told_again at was value t u same i b s first stored before again found flag =
    let index : s.0 ≡ i = cc in
    let item : s.1 ≡ b = cc in
    λ j. (index j, item j, not_new s.2 (was u) i flag (ap was same ∙ before) j)
