-- The effect of an insertion into a table of `Arc`s on the values that they show.
use Rattle.std.proofs.Common.{◌≡◌, ◌∙◌, ◌↔◌, ap, sym, Bool, true, false, IsTrue, List, Option, Some, None, Result, Ok, Err, OnErr, refl, rules}
use Rattle.std.specs.Option.{option_map, UnwrapsOrElse}
use Rattle.std.specs.Map.{lookup}
use Rattle.std.specs.declared.sync.Arc.{Arc}
use Rattle.std.specs.Arc.{arc_value}
use Rattle.elsa_tables.specs.Tables.{AddsNew}
use Rattle.elsa_tables.specs.FirstWins.{value_at}
use Rattle.elsa_locks.specs.Shared.{shown, Leaves}
use Rattle.elsa_locks.proofs.Shared.{lookup_shown, adds_shown}

-- What is not absent is present.
pub is_there : {X : Type 0} (o : Option X) → (o ≡ None → ⊥) → (x : X) × (o ≡ Some x)
is_there None h = absurd (h refl)
is_there (Some x) h = (x, refl)

-- What is not present is absent.
pub is_absent : {X : Type 0} (o : Option X) → ((x : X) → o ≡ Some x → ⊥) → o ≡ None
is_absent None h = refl
is_absent (Some x) h = absurd (h x refl)

-- The contract of a call that returned v and whether the key was new.
abbrev pub Says : {K V : Type 0} → (K → K → Bool) → List (K × V) → List (K × V) → K → (V → Type 0) → V → Bool → Type 0
Says same old new key P v is_new = UnwrapsOrElse (value_at same old key) P v × (value_at same new key ≡ Some v)
    × (IsTrue is_new ↔ (value_at same old key ≡ None)) × Leaves same old key v new

-- That contract holds for a key that was found.
pub found_says : {K V Z : Type 0} (same : K → K → Bool) (es fs : List (K × Arc V Z)) (key : K) (x : Arc V Z) (v : V) (P : V → Type 0)
    → lookup (same key) es ≡ Some x → fs ≡ es → v ≡ arc_value x → Says same (shown es) (shown fs) key P v false
found_says same es fs key x v P at stays is =
    let there : lookup (same key) (shown es) ≡ Some v = lookup_shown (same key) es ∙ ap (option_map arc_value) at ∙ ap Some (sym is) in
    let left : shown fs ≡ shown es = ap shown stays in
    (rw there refl, rw left there, rw there (search rules), ((λ y h. left), (λ n. search (rules, there, n)), (λ q. rw (there, left) refl)))

-- It holds for a key that was added.
pub added_says : {K V Z : Type 0} (same : K → K → Bool) (es fs : List (K × Arc V Z)) (key : K) (a : Arc V Z) (v : V) (P : V → Type 0)
    → lookup (same key) es ≡ None → AddsNew same es fs key a → v ≡ arc_value a → P v → Says same (shown es) (shown fs) key P v true
added_says same es fs key a v P at adds is made =
    let gone : lookup (same key) (shown es) ≡ None = lookup_shown (same key) es ∙ ap (option_map arc_value) at in
    let added = adds_shown same es fs key a adds in
    (rw gone made, added.0 ∙ ap Some (sym is), rw gone (search rules), ((λ y h. search (rules, gone, h)), (λ n. added.2), (λ q. rw (gone, is) (added.1 q))))

-- A fact that holds also holds at an error.
pub at_err : {A E : Type 0} (r : Result A E) (X : Type 0) → X → OnErr r X
at_err (Ok a) X x = tt
at_err (Err e) X x = x
