-- Lemmas on what a reader read.
use Rattle.std.proofs.Common.{◌≡◌, ℕ, Result, Ok, Err, List, [], ◌∷◌, ◌++◌, Option, Some, None, refl, subst, sym, ap, ◌∙◌, append_assoc, append-nil, map}
use Rattle.std.specs.Result.{IfOk}
use Rattle.serde.specs.Event.{Event}
use Rattle.serde.specs.Steps.{Gives, Stays}
use Rattle.serde.specs.declared.deserializer.Deserializer.{Deserializer}
use Rattle.elsa_serde.specs.Read.{InTurn, ReadsEvents, ReadsStep, events_among, events_of_each}

-- Steps for the items of two lists.
pub in_turn_join : {S X : Type 0} (step : S → X → S → Type 0) (xs ys : List X) (old mid new : S) → InTurn step old xs mid → InTurn step mid ys new → InTurn step old (xs ++ ys) new
in_turn_join step [] ys old mid new went more = subst (λ m. InTurn step m ys new) went more
in_turn_join step (x ∷ xs) ys old mid new went more = (went.0, went.1, in_turn_join step xs ys went.0 mid new went.2 more)

events_among_join : (xs ys : List (Option Event)) → events_among (xs ++ ys) ≡ events_among xs ++ events_among ys
events_among_join [] ys = refl
events_among_join (None ∷ xs) ys = events_among_join xs ys
events_among_join (Some e ∷ xs) ys = ap (λ es. e ∷ es) (events_among_join xs ys)

module _ {F E M : Type 0} (gives : F → List ℕ → Event → F → Type 0) (stays : F → F → Type 0) where
  -- One step read one event.
  pub reads_one : (old new : Deserializer F E M) (e : Event) → Gives gives old e new → ReadsEvents gives stays old (e ∷ []) new
  reads_one old new e given = (Some e ∷ [], refl, (new, given, refl))

  -- The reader only looked ahead.
  pub reads_look : (old new : Deserializer F E M) → Stays stays old new → ReadsEvents gives stays old [] new
  reads_look old new looked = (None ∷ [], refl, (new, looked, refl))

  -- The reader read these events, and then those.
  pub reads_then : (old mid new : Deserializer F E M) (es fs : List Event) → ReadsEvents gives stays old es mid → ReadsEvents gives stays mid fs new → ReadsEvents gives stays old (es ++ fs) new
  reads_then old mid new es fs first more = (
    first.0 ++ more.0,
    events_among_join first.0 more.0 ∙ ap (λ xs. xs ++ events_among more.0) first.1 ∙ ap (λ ys. es ++ ys) more.1,
    in_turn_join (ReadsStep gives stays) first.0 more.0 old mid new first.2 more.2,
  )

  -- A value that is read by one step.
  pub one_event : {T X : Type 0} (r : Result T X) (of : T → Event) (old new : Deserializer F E M) → IfOk r (λ v. Gives gives old (of v) new) → IfOk r (λ v. Unit {0} → ReadsEvents gives stays old (of v ∷ []) new)
  one_event (Ok v) of old new given = λ _. reads_one old new (of v) given
  one_event (Err e) of old new given = tt

-- The events of the items and of another one at their end.
pub events_of_each_push : {X : Type 0} (events : X → List Event) (xs : List X) (x : X) → events_of_each events (xs ++ x ∷ []) ≡ events_of_each events xs ++ events x
events_of_each_push events [] x = append-nil (events x)
events_of_each_push events (y ∷ xs) x = ap (λ es. events y ++ es) (events_of_each_push events xs x) ∙ sym (append_assoc (events y) (events_of_each events xs) (events x))

-- The events of the images of the items.
pub events_of_each_map : {X Y : Type 0} (events : Y → List Event) (f : X → Y) (xs : List X) → events_of_each events (map f xs) ≡ events_of_each (λ x. events (f x)) xs
events_of_each_map events f [] = refl
events_of_each_map events f (x ∷ xs) = ap (λ es. events (f x) ++ es) (events_of_each_map events f xs)

module _ {F E M : Type 0} (gives : F → List ℕ → Event → F → Type 0) (stays : F → F → Type 0) where
  -- The reader read the items before, and then another one.
  pub reads_item : {X : Type 0} (events : X → List Event) (head : Event) (xs ys : List X) (x : X) (old mid new : Deserializer F E M) → ys ≡ xs ++ x ∷ []
      → ReadsEvents gives stays old (head ∷ events_of_each events xs) mid → ReadsEvents gives stays mid (events x) new
      → ReadsEvents gives stays old (head ∷ events_of_each events ys) new
  reads_item events head xs ys x old mid new is before item =
      subst (λ es. ReadsEvents gives stays old (head ∷ es) new) (sym (ap (events_of_each events) is ∙ events_of_each_push events xs x))
      (reads_then gives stays old mid new (head ∷ events_of_each events xs) (events x) before item)

  -- At the begin, no item was read.
  pub reads_begin : {X : Type 0} (events : X → List Event) (head : Event) (xs : List X) (old new : Deserializer F E M) → xs ≡ [] → Gives gives old head new
      → ReadsEvents gives stays old (head ∷ events_of_each events xs) new
  reads_begin events head xs old new none given =
      subst (λ ys. ReadsEvents gives stays old (head ∷ events_of_each events ys) new) (sym none) (reads_one gives stays old new head given)
