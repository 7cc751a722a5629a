-- What the calls of C write for the texts of a block, and how they report why they stopped.
-- A text is its bytes, and its code is its index among the names, which are in the order of first texts.
use Rattle.std.specs.Prelude.{◌≡◌, ℕ, ◌<◌, ◌≤◌, ◌⊎◌, ◌↔◌, List, ◌∷◌, length, position, slice_get, slice_index, slice_range, Bool, true, false, Option, Some, None}
use Rattle.std.specs.Str.{bytes_eq, IsUtf8}
use Rattle.std.specs.Option.{option_map}
use mathlib.Core.List.{IsPrefix}
use Rattle.elsa_interner.specs.Names.{IsFull, Puts}
use Rattle.elsa_c.specs.declared.fault.Fault.{Fault}
use Rattle.elsa_c.specs.declared.fault.Fault.TheVariants.{Memory, NotUtf8, EndsOutOfOrder, Full, TooFewCodes, Busy, NoNames}

-- Where text i of a block begins: at the end of the text before it, and the first text at 0.
abbrev pub start_of : List ℕ → ℕ → ℕ
start_of ends i = slice_index (0 ∷ ends) i

-- Text i of a block.
abbrev pub text_of : List ℕ → List ℕ → ℕ → List ℕ
text_of bytes ends i = slice_range bytes (start_of ends i) (slice_index ends i)

-- One of the first n codes is d.
abbrev pub IsBefore : List ℕ → ℕ → ℕ → Type 0
IsBefore codes n d = (j : ℕ) × (j < n) × (slice_get codes j ≡ Some d)

-- The first `count` texts have their codes, and the names have become `after`: those of before, and then each new text
-- once, in the order of first texts. The other codes are as before.
pub record PutsAll (text : ℕ → List ℕ) (count : ℕ) (before after : List (List ℕ)) (old new : List ℕ) : Type 0 where
  pub coded : (i : ℕ) → i < count → slice_get new i ≡ position (bytes_eq (text i)) after
  pub kept : IsPrefix before after
  pub only : (d : ℕ) → d < length after → (d < length before) ⊎ IsBefore new count d
  pub earlier : (i c d : ℕ) → i < count → slice_get new i ≡ Some c → d < c → (d < length before) ⊎ IsBefore new i d
  pub rest : (i : ℕ) → count ≤ i → slice_get new i ≡ slice_get old i

-- Among the first `count` texts, equal texts have equal codes and different texts different ones; each code below that
-- of a text is the code of an earlier text, so a new text has the next number. The other codes are as before.
pub record IsFactorized (text : ℕ → List ℕ) (count : ℕ) (old new : List ℕ) : Type 0 where
  pub equal : (i j : ℕ) → i < count → j < count → (slice_get new i ≡ slice_get new j) ↔ (text i ≡ text j)
  pub order : (i c d : ℕ) → i < count → slice_get new i ≡ Some c → d < c → IsBefore new i d
  pub rest : (i : ℕ) → count ≤ i → slice_get new i ≡ slice_get old i

-- The number that C has for a fault.
abbrev pub fault_code : Fault → ℕ
fault_code Memory = 1
fault_code NotUtf8 = 2
fault_code EndsOutOfOrder = 3
fault_code Full = 4
fault_code TooFewCodes = 5
fault_code Busy = 6
fault_code NoNames = 7

-- The number that C has for how a call ended: 0 is success.
abbrev pub status_code : Option Fault → ℕ
status_code None = 0
status_code (Some fault) = fault_code fault

-- Why there is no text between two ends.
abbrev pub IsNoText : List ℕ → ℕ → ℕ → Fault → Type 0
IsNoText bytes start end NotUtf8 = (start ≤ end) × (end ≤ length bytes) × ((IsUtf8 (slice_range bytes start end)) → ⊥)
IsNoText bytes start end EndsOutOfOrder = (end < start) ⊎ (length bytes < end)
IsNoText bytes start end Memory = ⊥
IsNoText bytes start end Full = ⊥
IsNoText bytes start end TooFewCodes = ⊥
IsNoText bytes start end Busy = ⊥
IsNoText bytes start end NoNames = ⊥

-- Why a text did not get a number: it is new.
abbrev pub IsRefused : List (List ℕ) → List ℕ → Fault → Type 0
IsRefused names text Memory = position (bytes_eq text) names ≡ None
IsRefused names text Full = (position (bytes_eq text) names ≡ None) × IsFull names
IsRefused names text NotUtf8 = ⊥
IsRefused names text EndsOutOfOrder = ⊥
IsRefused names text TooFewCodes = ⊥
IsRefused names text Busy = ⊥
IsRefused names text NoNames = ⊥

-- The call ended after `count` texts: after all of them, or at the first that is no text or did not get a number. With
-- too few codes it ended before the first.
abbrev pub IsEnd : List ℕ → List ℕ → ℕ → List (List ℕ) → ℕ → Option Fault → Type 0
IsEnd bytes ends room names count None = count ≡ length ends
IsEnd bytes ends room names count (Some TooFewCodes) = (room < length ends) × (count ≡ 0)
IsEnd bytes ends room names count (Some fault) = (count < length ends)
    × (IsNoText bytes (start_of ends count) (slice_index ends count) fault ⊎ IsRefused names (text_of bytes ends count) fault)

-- The status that C reads is that of such an end.
abbrev pub IsStatus : List ℕ → List ℕ → ℕ → List (List ℕ) → ℕ → ℕ → Type 0
IsStatus bytes ends room names count status = (fault : Option Fault) × (status ≡ status_code fault) × IsEnd bytes ends room names count fault

-- How a put of one text ended: it has its number, or nothing has changed.
abbrev pub IsPutEnd : List ℕ → List (List ℕ) → List (List ℕ) → ℕ → ℕ → Option Fault → Type 0
IsPutEnd text before after old new None = Puts before text new after
IsPutEnd text before after old new (Some NotUtf8) = (IsUtf8 text → ⊥) × (after ≡ before) × (new ≡ old)
IsPutEnd text before after old new (Some fault) = IsRefused before text fault × (after ≡ before) × (new ≡ old)

-- The status of such an end.
abbrev pub IsPutStatus : List ℕ → List (List ℕ) → List (List ℕ) → ℕ → ℕ → ℕ → Type 0
IsPutStatus text before after old new status = (fault : Option Fault) × (status ≡ status_code fault) × IsPutEnd text before after old new fault

-- What is found of a text: its index among the names. Bytes that are not UTF-8 are no text.
pub record IsFound (text : List ℕ) (names : List (List ℕ)) (result : Option ℕ) : Type 0 where
  pub found : IsUtf8 text → result ≡ position (bytes_eq text) names
  pub absent : (IsUtf8 text → ⊥) → result ≡ None

-- What is read at a code: the length of the name there, if there is one. No clause can state what is stored at the
-- address.
abbrev pub IsRead : {P : Type 0} → List (List ℕ) → ℕ → Option (P × ℕ) → Type 0
IsRead names code result = option_map (λ r. r.1) result ≡ option_map length (slice_get names code)

-- Each code below that of a text is the code of an earlier text, as `IsFactorized` states it of all texts.
abbrev pub IsInOrder : List ℕ → Type 0
IsInOrder codes = (i c d : ℕ) → slice_get codes i ≡ Some c → d < c → IsBefore codes i d

-- For each of the first `count` codes, where it occurs.
abbrev pub IsFirsts : List ℕ → ℕ → List ℕ → Type 0
IsFirsts codes count firsts = (d : ℕ) → d < count → (at : ℕ) × (slice_get firsts d ≡ Some at) × (slice_get codes at ≡ Some d)

-- Each of the codes has its element, or there are no more elements.
abbrev pub AreAllFirsts : List ℕ → ℕ → ℕ → Type 0
AreAllFirsts codes count room = IsInOrder codes → (i c : ℕ) → slice_get codes i ≡ Some c → (c < count) ⊎ (count ≡ room)

-- What C reads of a call that returns whether it wrote a number.
abbrev pub found_code : Bool → ℕ → Option ℕ
found_code true number = Some number
found_code false number = None
