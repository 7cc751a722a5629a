-- What comes back when a collection is written and what was written is read.
--
-- A writer sends events, and a reader gives events. They agree except in what a reader doesn't
-- repeat: the length that the writer announced, and the end of a key.
use Rattle.std.specs.Prelude.{◌≡◌, ℕ, Bool, true, false, List, [], ◌∷◌, ◌++◌, Option, Some, None, length}
use Rattle.std.specs.Option.{option_map}
use Rattle.serde.specs.Event.{Event, Log, seq_begins, seq_ends, map_begins, map_ends, key_ends}
use Rattle.serde.specs.declared.deserializer.Deserializer.{Deserializer}
use Rattle.elsa_maps.specs.FirstWins.{value_at}
use Rattle.elsa_serde.specs.Read.{ReadsEvents, events_of_each}

-- An event that was sent, as a reader gives it.
abbrev pub as_read : Event → List Event
as_read (seq_begins n) = seq_begins None ∷ []
as_read (map_begins n) = map_begins None ∷ []
as_read key_ends = []
as_read e = e ∷ []

-- The events that were sent, as a reader gives them.
abbrev pub all_as_read : List Event → List Event
all_as_read = events_of_each as_read

-- Whether a sequence or a map ends here.
abbrev pub is_end : Event → Bool
is_end seq_ends = true
is_end map_ends = true
is_end e = false

-- There are events, and the first one is no end.
abbrev pub StartsValue : List Event → Type 0
StartsValue [] = ⊥
StartsValue (e ∷ es) = is_end e ≡ false

-- Both lists have the same length, and items at the same index are related.
abbrev pub Pairwise : {X Y : Type 0} → (X → Y → Type 0) → List X → List Y → Type 0
Pairwise Same [] [] = Unit {0}
Pairwise Same [] (y ∷ ys) = ⊥
Pairwise Same (x ∷ xs) [] = ⊥
Pairwise Same (x ∷ xs) (y ∷ ys) = Same x y × Pairwise Same xs ys

-- A value of type B comes back as one of type T that is the same: the writer sends known events for
-- it, and a value that is read from these events is the same, wherever they occur.
pub record ComesBack {T B : Type 0} (events : T → List Event) (writes : B → Log → Log → Type 0) (Same : T → B → Type 0) : Type 0 where
  pub sent : B → List Event
  pub sends : (b : B) (before : List Event) (log : Log) → writes b (Some before) log → log ≡ Some (before ++ sent b)
  pub decodes : (x : T) (b : B) (r s : List Event) → events x ++ r ≡ all_as_read (sent b) ++ s → Same x b × (r ≡ s)
  pub starts : (x : T) → StartsValue (events x)
  pub starts_sent : (b : B) → StartsValue (all_as_read (sent b))

module _ {F E M : Type 0} (gives : F → List ℕ → Event → F → Type 0) (stays : F → F → Type 0) where
  -- Of what the reader gave between two of its states, each value that may be read from it has
  -- exactly the events that were sent between the two states of the log.
  abbrev pub GivesWhatWasSent : {X : Type 0} → (X → List Event) → Log → Log → Deserializer F E M → Deserializer F E M → Type 0
  GivesWhatWasSent {X} events log_old log_new old new =
      (before : List Event) × (log_old ≡ Some before)
      × ((x : X) (sent : List Event) → log_new ≡ Some (before ++ sent) → ReadsEvents gives stays old (events x) new → events x ≡ all_as_read sent)

-- ---- maps

-- Both maps have the same number of entries, and at each key values that show the same target.
abbrev pub ShowsSame : {K B T : Type 0} → (K → K → Bool) → (B → T) → List (K × B) → List (K × B) → Type 0
ShowsSame {K} same shown old new =
    (length new ≡ length old) × ((q : K) → option_map shown (value_at same new q) ≡ option_map shown (value_at same old q))

-- The entries of both maps at the same index have equal keys, and values that show the same target.
abbrev pub ShowsSameInOrder : {K B T : Type 0} → (K → K → Bool) → (B → T) → List (K × B) → List (K × B) → Type 0
ShowsSameInOrder same shown old new = Pairwise (λ these those. (same those.0 these.0 ≡ true) × (shown these.1 ≡ shown those.1)) new old

-- A new entry of the map goes last.
abbrev pub AddsLast : {K B : Type 0} → (List (K × B) → K → B → List (K × B) → Type 0) → Type 0
AddsLast {K} {B} extends = (old : List (K × B)) (key : K) (value : B) (new : List (K × B)) → extends old key value new → new ≡ old ++ (key, value) ∷ []

-- ---- what an item, a key and a value must be

-- An item of a sequence comes back with its target.
abbrev pub ItemComesBack : {V B T : Type 0} → (V → List Event) → (B → Log → Log → Type 0) → (V → T) → (B → T) → Type 0
ItemComesBack events writes target shown = ComesBack events writes (λ v b. target v ≡ shown b)

-- A key comes back as a key that equals it.
abbrev pub KeyComesBack : {K : Type 0} → (K → List Event) → (K → Log → Log → Type 0) → (K → K → Bool) → Type 0
KeyComesBack events writes same = ComesBack events writes (λ read key. same key read ≡ true)
