-- What the steps of a reader read, in the definitions of the reader's format: `gives` states which
-- event a step read, and `stays` that a step only looked ahead. The events are those by which
-- serde describes what a value sends to a serializer.
use Rattle.std.specs.Prelude.{◌≡◌, ℕ, List, [], ◌∷◌, ◌++◌, Option, Some, None}
use Rattle.serde.specs.Event.{Event, seq_begins, seq_ends, map_begins, map_ends, key_begins, text}
use Rattle.serde.specs.Steps.{Gives, Stays}
use Rattle.serde.specs.declared.deserializer.Deserializer.{Deserializer}

-- A step for each of the items, one after the other.
abbrev pub InTurn : {S X : Type 0} → (S → X → S → Type 0) → S → List X → S → Type 0
InTurn step old [] new = new ≡ old
InTurn {S} step old (x ∷ xs) new = (mid : S) × step old x mid × InTurn step mid xs new

-- The events among the steps. A step without an event only looked ahead.
abbrev pub events_among : List (Option Event) → List Event
events_among [] = []
events_among (None ∷ steps) = events_among steps
events_among (Some e ∷ steps) = e ∷ events_among steps

module _ {F E M : Type 0} (gives : F → List ℕ → Event → F → Type 0) (stays : F → F → Type 0) where
  -- A step that read this event, or only looked ahead.
  abbrev pub ReadsStep : Deserializer F E M → Option Event → Deserializer F E M → Type 0
  ReadsStep old None new = Stays stays old new
  ReadsStep old (Some e) new = Gives gives old e new

  -- The reader read these events in this order, and nothing else.
  abbrev pub ReadsEvents : Deserializer F E M → List Event → Deserializer F E M → Type 0
  ReadsEvents old events new = (steps : List (Option Event)) × (events_among steps ≡ events) × InTurn ReadsStep old steps new

-- ---- the events of a sequence and of a map

-- The events of the items, one item after the other.
abbrev pub events_of_each : {X : Type 0} → (X → List Event) → List X → List Event
events_of_each events [] = []
events_of_each events (x ∷ xs) = events x ++ events_of_each events xs

-- A sequence of these items, from its begin to its end.
abbrev pub seq_events : {X : Type 0} → (X → List Event) → List X → List Event
seq_events events xs = seq_begins None ∷ (events_of_each events xs ++ seq_ends ∷ [])

module _ {K V : Type 0} (key : K → List Event) (value : V → List Event) where
  -- A key, and then its value.
  abbrev pub entry_events : K × V → List Event
  entry_events entry = key_begins ∷ (key entry.0 ++ value entry.1)

  -- A map of these entries, from its begin to its end.
  abbrev pub map_events : List (K × V) → List Event
  map_events entries = map_begins None ∷ (events_of_each entry_events entries ++ map_ends ∷ [])

-- A text of these bytes.
abbrev pub text_events : List ℕ → List Event
text_events bytes = text bytes ∷ []
