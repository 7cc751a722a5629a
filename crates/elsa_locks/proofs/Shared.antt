-- Lemmas about values in an `Arc`: what a list of `Arc`s shows.
use Rattle.std.proofs.Common.{◌≡◌, ◌+◌, ◌∙◌, ap, sym, Bool, List, Option, Some, None, refl, Bor, true, false, if◌then◌else◌}
use Rattle.std.specs.Option.{option_eq, option_map}
use Rattle.std.specs.Map.{lookup, keys_of}
use Rattle.std.specs.declared.sync.Arc.{Arc}
use Rattle.std.specs.Arc.{arc_value}
use Rattle.std.specs.Cmp.Derive.Mapped.{pointwise-map}
use Rattle.std.proofs.lemmas.List.{length-map, map-append}
use Rattle.std.proofs.lemmas.Map.Made.{lookup-map_values, keys_of-map_values}
use Rattle.std.proofs.lemmas.Option.{slice_get-map}
use Rattle.elsa_tables.specs.Tables.{AddsNew}
use Rattle.elsa_locks.specs.Shared.{shown}

-- A lookup among the shown values finds the value of the `Arc` that a lookup among the `Arc`s
-- finds.
pub lookup_shown : {K V Z : Type 0} (test : K → Bool) (es : List (K × Arc V Z)) → lookup test (shown es) ≡ option_map arc_value (lookup test es)
lookup_shown test es = lookup-map_values arc_value test es

-- The keys are those of the entries.
pub keys_shown : {K V Z : Type 0} (es : List (K × Arc V Z)) → keys_of (shown es) ≡ keys_of es
keys_shown es = keys_of-map_values arc_value es

-- What is shown, by the facts about the `Arc`s.
pub ruleset shows = (lookup_shown, keys_shown, length-map, map-append, slice_get-map, pointwise-map)

option_eq_shown : {V Z : Type 0} (E : V → V → Bool) (a b : Option (Arc V Z)) → option_eq (λ x y. E (arc_value x) (arc_value y)) a b ≡ option_eq E (option_map arc_value a) (option_map arc_value b)
option_eq_shown E None None = refl
option_eq_shown E None (Some y) = refl
option_eq_shown E (Some x) None = refl
option_eq_shown E (Some x) (Some y) = refl

-- `Arc`s that are looked up are compared as the values that they show.
pub compared_shown : {K V Z : Type 0} (E : V → V → Bool) (test : K → Bool) (es fs : List (K × Arc V Z)) → option_eq (λ x y. E (arc_value x) (arc_value y)) (lookup test es) (lookup test fs) ≡ option_eq E (lookup test (shown es)) (lookup test (shown fs))
compared_shown E test es fs = rw (lookup_shown test es, lookup_shown test fs) (option_eq_shown E (lookup test es) (lookup test fs))

-- The value of the `Arc` that was found is the value at the key.
pub found_shown : {K V Z : Type 0} (test : K → Bool) (es : List (K × Arc V Z)) (r : Option (Bor (Arc V Z)))
    → option_map (λ b. b.now) r ≡ lookup test es → option_map (λ a. arc_value a.now) r ≡ lookup test (shown es)
found_shown test es None h = ap (option_map arc_value) h ∙ sym (lookup_shown test es)
found_shown test es (Some b) h = ap (option_map arc_value) h ∙ sym (lookup_shown test es)

chosen : {V Z : Type 0} (b : Bool) (a : Arc V Z) (o : Option (Arc V Z)) → option_map arc_value (if b then Some a else o) ≡ (if b then Some (arc_value a) else option_map arc_value o)
chosen true a o = refl
chosen false a o = refl

-- The `Arc` of a new key adds the value that it shows.
pub adds_shown : {K V Z : Type 0} (same : K → K → Bool) (es fs : List (K × Arc V Z)) (k : K) (a : Arc V Z) → AddsNew same es fs k a → AddsNew same (shown es) (shown fs) k (arc_value a)
adds_shown same es fs k a h = (
  lookup_shown (same k) fs ∙ ap (option_map arc_value) h.0,
  (λ q. lookup_shown (same q) fs ∙ ap (option_map arc_value) (h.1 q) ∙ chosen (same k q) a (lookup (same q) es) ∙ ap (λ o. if same k q then Some (arc_value a) else o) (sym (lookup_shown (same q) es))),
  length-map _ _ ∙ h.2 ∙ ap (λ n. n + 1) (sym (length-map _ _)),
)
