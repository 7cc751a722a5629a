-- What happens to a vector, one event after the other, and what that leaves: the shared list, and whether a thread holds.
-- A vector is made held by its maker, who fills it and releases it, as every later holder does.
use Rattle.std.specs.Prelude.{ℕ, Bool, true, false, List, [], ◌∷◌, ◌++◌, drop, length}
use Rattle.elsa_lock_free.specs.declared.event.Entry.{Entry}
use Rattle.elsa_lock_free.specs.declared.event.Event.{Event}
use Rattle.elsa_lock_free.specs.declared.event.Event.TheVariants.{Acquired, Published, Extended, Cloned, Released, OfferOf}
use Rattle.elsa_lock_free.specs.AtomicSteps.{Shared}
use Rattle.elsa_lock_free.specs.SharedList.{written_by, copied}

module _ {T : Type 0} where
  -- what an event adds to the shared list
  abbrev pub entries : Event T → List (Entry T)
  entries Acquired = []
  entries (Published x) = x ∷ []
  entries (Extended a xs) = written_by a xs
  entries (Cloned xs) = copied xs
  entries Released = []
  entries (OfferOf a n) = []

  -- the shared list: the entries that were published, in order
  abbrev pub list_of : List (Event T) → List (Entry T)
  list_of [] = []
  list_of (e ∷ es) = entries e ++ list_of es

  -- whether a thread holds after this event
  abbrev pub begins_hold : Event T → Bool
  begins_hold Acquired = true
  begins_hold (Published x) = false
  begins_hold (Extended a xs) = false
  begins_hold (Cloned xs) = false
  begins_hold Released = false
  begins_hold (OfferOf a n) = false

  -- whether a thread holds after these events, if it did before or not
  abbrev pub held_from : Bool → List (Event T) → Bool
  held_from b [] = b
  held_from b (e ∷ es) = held_from (begins_hold e) es

  -- whether a thread holds: at the start the maker does, and later the one that acquired last and has not released
  abbrev pub is_held : List (Event T) → Bool
  is_held es = held_from true es

  -- what the threads share, as the history leaves it
  abbrev pub shared_by : List (Event T) → Shared (Entry T)
  shared_by es = record { length = length (list_of es); held = is_held es; list = list_of es }

  -- the number of entries that an event adds
  abbrev pub added_by : Event T → ℕ
  added_by Acquired = 0
  added_by (Published x) = 1
  added_by (Extended a xs) = length xs
  added_by (Cloned xs) = length xs
  added_by Released = 0
  added_by (OfferOf a n) = 0

  -- the part of a history that the right to release has: for each event the number of its entries. A ghost list must be
  -- storable, and a list of events is storable only if its items are
  abbrev pub added : List (Event T) → List ℕ
  added [] = []
  added (e ∷ es) = added_by e ∷ added es

  -- An offer is about a pass: its writer, the number of entries that it pushed, and then its history
  abbrev pub writer_of : List (Event T) → ℕ
  writer_of [] = 0
  writer_of (Acquired ∷ es) = 0
  writer_of (Published x ∷ es) = 0
  writer_of (Extended a xs ∷ es) = 0
  writer_of (Cloned xs ∷ es) = 0
  writer_of (Released ∷ es) = 0
  writer_of (OfferOf a n ∷ es) = a

  -- the number of entries that it pushed
  abbrev pub used_of : List (Event T) → ℕ
  used_of [] = 0
  used_of (Acquired ∷ es) = 0
  used_of (Published x ∷ es) = 0
  used_of (Extended a xs ∷ es) = 0
  used_of (Cloned xs ∷ es) = 0
  used_of (Released ∷ es) = 0
  used_of (OfferOf a n ∷ es) = n

  -- the number of entries that it pushes, for an offer that has them before its history
  abbrev pub pushes_of : List (Event T) → ℕ
  pushes_of [] = 0
  pushes_of (e ∷ es) = added_by e

  -- what it knows of the history
  abbrev pub others : List (Event T) → List (Event T)
  others [] = []
  others (e ∷ es) = es

  -- of these items, those after the list of a history
  abbrev pub behind : List (Event T) → List T → List T
  behind es xs = drop (length (list_of es)) xs
