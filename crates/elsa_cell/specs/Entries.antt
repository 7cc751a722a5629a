-- What was observed of a map: entries of a key and a value, each key once.
use Rattle.std.specs.Prelude.{ℕ, ◌≡◌, ◌-◌, ◌^◌, ◌≤◌, ◌⊎◌, Bool, true, false, Some, None, List, [], ◌∷◌, ◌++◌, length, map, position}
use Rattle.std.specs.Map.{lookup}
use mathlib.Core.List.{IsPrefix}
use Rattle.elsa_arena.specs.Observed.{EachHolds, IsStateOf}
use Rattle.elsa_cell.specs.declared.map.Entry.{Entry}
use Rattle.elsa_tables.specs.Rules.{HoldsAt}
use Rattle.elsa_arena.specs.declared.state.State.{State}

module _ {K V : Type 0} where
  -- the key of an entry
  abbrev pub key_of : Entry K V → K
  key_of e = e.key

  -- an entry as a pair
  abbrev pub pair_of : Entry K V → K × V
  pair_of e = (e.key, e.value)

  -- entries as pairs
  abbrev pub pairs_of : List (Entry K V) → List (K × V)
  pairs_of es = map pair_of es

  -- pairs as entries
  abbrev pub entries_of : List (K × V) → List (Entry K V)
  entries_of [] = []
  entries_of (p ∷ ps) = record { key = p.0; value = p.1 } ∷ entries_of ps

  -- each entry obeys the rule
  abbrev pub HoldsEach : (K → V → Type 0) → List (Entry K V) → Type 0
  HoldsEach holds = EachHolds (λ e. holds e.key e.value)

  -- the entries of `old`, and then one with this key and value
  abbrev pub AppendsPair : List (Entry K V) → List (Entry K V) → K → V → Type 0
  AppendsPair old new key value = (e : Entry K V) × (pair_of e ≡ (key, value)) × (new ≡ old ++ e ∷ [])

  -- The effect of an insertion on a map that no other call has: a new key is appended with the
  -- value; a present key stays, with its value. `kept` is the value that the key then has, `index`
  -- is its index.
  abbrev pub Inserts : (K → K → Bool) → List (Entry K V) → List (Entry K V) → K → V → V → ℕ → Bool → Type 0
  Inserts equal old new key value kept index true = (lookup (equal key) (pairs_of old) ≡ None) × AppendsPair old new key value × (kept ≡ value) × (index ≡ length old)
  Inserts equal old new key value kept index false = (lookup (equal key) (pairs_of old) ≡ Some kept) × (position (equal key) (map key_of old) ≡ Some index) × (new ≡ old)

  -- The effect of an insertion, from what was observed: the map was that, or it had further entries
  -- of other calls; then the insertion took place.
  abbrev pub InsertsOnce : (K → K → Bool) → List (Entry K V) → List (Entry K V) → K → V → V → ℕ → Bool → Type 0
  InsertsOnce equal before after key value kept index is_new = (all : List (Entry K V)) × IsPrefix before all × Inserts equal all after key value kept index is_new

  -- The effect of a look-up that inserts an absent key with what was made: the entry that the test
  -- finds has the value and the index, or else an entry that was made was inserted.
  abbrev pub GetsOrInserts : (K → K → Bool) → (K → Bool) → (K → V → Type 0) → List (Entry K V) → List (Entry K V) → V → ℕ → Bool → Type 0
  GetsOrInserts equal test made before after kept index is_new = ((is_new ≡ false) × (lookup test (pairs_of after) ≡ Some kept) × (position test (map key_of after) ≡ Some index)) ⊎ ((k : K) × (v : V) × made k v × InsertsOnce equal before after k v kept index is_new)

  -- The value holds for a key that the test finds, or for one that equals a key which was made.
  abbrev pub HoldsAtOrMade : (K → K → Bool) → (K → Bool) → (K → V → Type 0) → (K → V → Type 0) → V → Type 0
  HoldsAtOrMade equal test made holds v = HoldsAt holds test v ⊎ ((k : K) × (w : V) × made k w × HoldsAt holds (equal k) v)

-- Keys as entries without values.
abbrev pub alone : {K : Type 0} → List K → List (Entry K (Unit {0}))
alone [] = []
alone (k ∷ ks) = record { key = k; value = tt {0} } ∷ alone ks

-- The state of a map with these buffers: that of the list of its entries, and a table for their keys,
-- which has 32 bits for an index plus 1.
abbrev pub IsMapOf : {K V A T : Type 0} → (T → List K → Type 0) → List ℕ → State (Entry K V) A → T → Type 0
IsMapOf is_for buffers list table = IsStateOf buffers list × is_for table (map key_of list.prefix.items) × (length list.prefix.items ≤ 2 ^ 32 - 1)
