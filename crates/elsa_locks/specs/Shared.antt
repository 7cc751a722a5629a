-- Values in an `Arc`: contracts are about the values, and not about their owners.
use Rattle.std.specs.Prelude.{◌≡◌, ◌+◌, ℕ, Bool, None, Some, List, length, map}
use Rattle.std.specs.declared.sync.Arc.{Arc}
use Rattle.std.specs.Arc.{arc_value}
use Rattle.std.specs.List.{IsDistinct}
use Rattle.std.specs.Map.{keys_of}
use Rattle.elsa_tables.specs.FirstWins.{value_at, IsInserted}
use Rattle.elsa_tables.specs.Rules.{HoldsAt, IsKept}

-- The entries, each with the value of its `Arc`.
abbrev pub shown : {K V Z : Type 0} → List (K × Arc V Z) → List (K × V)
shown entries = map (λ e. (e.0, arc_value e.1)) entries

-- The items, each as the value of its `Arc`.
abbrev pub shown_items : {V Z : Type 0} → List (Arc V Z) → List V
shown_items items = map arc_value items

-- The content after an insertion of v at the key k: it is unchanged if the key is present.
-- Otherwise its length is greater by 1, and the key has v.
abbrev pub Leaves : {K V : Type 0} → (K → K → Bool) → List (K × V) → K → V → List (K × V) → Type 0
Leaves {V} same old k v new = ((x : V) → value_at same old k ≡ Some x → new ≡ old)
    × (value_at same old k ≡ None → length new ≡ length old + 1)
    × IsInserted same old k v new

-- P holds of the entries that a map had at one moment: no two of their keys are equal, the keys are
-- in the table's order, and the entries obey the map's rule.
abbrev pub AtAMoment : {K V : Type 0} → (K → K → Bool) → (List K → Type 0) → (K → V → Type 0) → (List (K × V) → Type 0) → Type 0
AtAMoment {K} {V} same in_order holds P = (entries : List (K × V)) × IsDistinct same (keys_of entries)
    × in_order (keys_of entries) × IsKept same holds entries × P entries

-- The rule holds of the value at each key with these bytes.
abbrev pub HoldsOfText : {K V : Type 0} → (K → List ℕ) → (K → V → Type 0) → List ℕ → V → Type 0
HoldsOfText {K} bytes holds text v = (k : K) → bytes k ≡ text → holds k v

-- The value holds for a stored key that equals a key with these bytes.
abbrev pub HoldsAtText : {K V : Type 0} → (K → List ℕ) → (K → K → Bool) → (K → V → Type 0) → List ℕ → V → Type 0
HoldsAtText {K} bytes same holds text v = (k : K) × (bytes k ≡ text) × HoldsAt holds (same k) v
