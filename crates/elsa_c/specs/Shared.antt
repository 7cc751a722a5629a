-- What a handle of shared names is in contracts, and how its calls end. It is a view: which names, the number of the handle
-- as a writer, and the list of texts that it has observed, each with its writer. Other handles add texts, so a call may
-- observe more than was observed before it; what was observed stays.
use Rattle.std.specs.Prelude.{◌≡◌, ℕ, ◌⊎◌, List, [], ◌∷◌, ◌++◌, map, position, slice_get, Option, Some, None}
use Rattle.std.specs.Str.{bytes_eq, IsUtf8}
use Rattle.elsa_hash_index.specs.declared.entry.Entry.{Entry}
use Rattle.elsa_interner.specs.Names.{IsFull}
use Rattle.elsa_lock_free.specs.declared.event.Entry.{Entry as Pushed}
use Rattle.elsa_lock_free.specs.SharedList.{View, items_of, mine}
use Rattle.elsa_c.specs.Codes.{fault_code, status_code}
use Rattle.elsa_c.specs.declared.fault.Fault.{Fault}
use Rattle.elsa_c.specs.declared.fault.Fault.TheVariants.{Memory, NotUtf8, EndsOutOfOrder, Full, TooFewCodes, Busy, NoNames}
use Rattle.elsa_c.specs.declared.shared_handle.Shared.{Shared}

module _ {K V S : Type 0} (bytes : K → List ℕ) where
  -- An entry of a map as the text of its key, of the same writer.
  abbrev pub text_of : Pushed (Entry K V S) → Pushed (List ℕ)
  text_of e = record { writer = e.writer; item = bytes e.item.key }

  -- A view of a map as one of its texts.
  abbrev pub texts_of : View (Entry K V S) → View (List ℕ)
  texts_of pass = record { vector = pass.vector; writer = pass.writer; seen = map text_of pass.seen }

-- The texts that a handle has observed, in the order of their codes: none without names.
abbrev pub texts_in : Option (View (List ℕ)) → List (List ℕ)
texts_in None = []
texts_in (Some view) = items_of view.seen

-- Those of a handle of C.
abbrev pub observed : Shared → List (List ℕ)
observed shared = texts_in shared.handle.value

-- A handle without names stays so, and the views of one with names are in the relation.
abbrev pub Became : (View (List ℕ) → View (List ℕ) → Type 0) → Option (View (List ℕ)) → Option (View (List ℕ)) → Type 0
Became relation None after = after ≡ None
Became relation (Some view) after = (later : View (List ℕ)) × (after ≡ Some later) × relation view later

-- A text was put: it has this code, and the handle has added nothing, or the text at this code; nothing if it had observed
-- the text.
abbrev pub PutsText : List ℕ → View (List ℕ) → View (List ℕ) → ℕ → Type 0
PutsText text before after code = (position (bytes_eq text) (items_of after.seen) ≡ Some code)
    × ((mine after ≡ mine before) ⊎ (mine after ≡ mine before ++ code ∷ []))
    × ((j : ℕ) → slice_get (items_of before.seen) j ≡ Some text → mine after ≡ mine before)

-- A text was not put: it was not observed before, and the handle has added nothing.
abbrev pub LacksText : List ℕ → View (List ℕ) → View (List ℕ) → Type 0
LacksText text before after = (position (bytes_eq text) (items_of before.seen) ≡ None) × (mine after ≡ mine before)

-- Why a text was not put.
abbrev pub IsUnput : List ℕ → View (List ℕ) → View (List ℕ) → Fault → Type 0
IsUnput text before after Memory = LacksText text before after
IsUnput text before after Busy = LacksText text before after
IsUnput text before after Full = LacksText text before after × IsFull (items_of after.seen)
IsUnput text before after NotUtf8 = ⊥
IsUnput text before after EndsOutOfOrder = ⊥
IsUnput text before after TooFewCodes = ⊥
IsUnput text before after NoNames = ⊥

-- How an attempt to put a text ended: it has its code, or the code that C has is as before.
abbrev pub IsAttempt : List ℕ → Option (View (List ℕ)) → Option (View (List ℕ)) → ℕ → ℕ → Option Fault → Type 0
IsAttempt text before after old new None = (before ≡ None → ⊥) × Became (λ a b. PutsText text a b new) before after
IsAttempt text before after old new (Some NotUtf8) = (IsUtf8 text → ⊥) × (after ≡ before) × (new ≡ old)
IsAttempt text before after old new (Some NoNames) = (before ≡ None) × (after ≡ None) × (new ≡ old)
IsAttempt text before after old new (Some fault) = (before ≡ None → ⊥) × Became (λ a b. IsUnput text a b fault) before after × (new ≡ old)

-- The status of such an end.
abbrev pub IsAttemptStatus : List ℕ → Option (View (List ℕ)) → Option (View (List ℕ)) → ℕ → ℕ → ℕ → Type 0
IsAttemptStatus text before after old new status = (fault : Option Fault) × (status ≡ status_code fault) × IsAttempt text before after old new fault

-- A handle was made, or an allocation failed and there are no names.
abbrev pub IsMade : (View (List ℕ) → Type 0) → Option (View (List ℕ)) → ℕ → Type 0
IsMade is after status = ((view : View (List ℕ)) × (after ≡ Some view) × is view × (status ≡ 0)) ⊎ ((after ≡ None) × (status ≡ fault_code Memory))

-- A handle of new names has observed none.
abbrev pub IsNew : View (List ℕ) → Type 0
IsNew view = view.seen ≡ []

-- Another handle of the same names has observed as much, and added nothing.
abbrev pub IsAnother : View (List ℕ) → View (List ℕ) → Type 0
IsAnother view other = (other.vector ≡ view.vector) × (other.seen ≡ view.seen) × (mine other ≡ [])

-- Another handle was made, unless there are no names.
abbrev pub IsAgain : Option (View (List ℕ)) → Option (View (List ℕ)) → ℕ → Type 0
IsAgain None after status = (after ≡ None) × (status ≡ fault_code NoNames)
IsAgain (Some view) after status = IsMade (IsAnother view) after status
