-- Maps in which the first value of a key stays, as partial functions from keys to values. A map is
-- the list of its entries, whose keys are pairwise unequal. The order of that list depends on the
-- map implementation, so a contract states only the function value_at and the number of entries. No
-- definition here mentions hash tables, hashes, trees or memory. Keys are compared by an equality
-- eq that need not be identity: an entry is found by any key that equals its own key.
use Rattle.std.specs.Prelude.{◌≡◌, ℕ, Bool, true, false, Option, None, Some, is_some, List, length, reverse, if◌then◌else◌}
use Rattle.std.specs.HashMap.{entries_eq}
use Rattle.std.specs.List.{IsDistinct}
use Rattle.std.specs.Map.{lookup, lookup_entry}
use Rattle.std.specs.Option.{option_eq, option_map}
use Rattle.std.specs.Set.{is_member}

module _ {K B : Type 0} (eq : K → K → Bool) where
  -- The value of the entry whose key equals k, if there is one.
  abbrev pub value_at : List (K × B) → K → Option B
  value_at entries k = lookup (eq k) entries

  -- The entry whose key equals k, if there is one.
  abbrev pub entry_at : List (K × B) → K → Option (K × B)
  entry_at entries k = lookup_entry (eq k) entries

-- ---- the content after a call

module _ {K B : Type 0} where
  -- `new` has the same value as `old` at each key.
  abbrev pub SameAt : (K → Option B) → (K → Option B) → Type 0
  SameAt old new = (q : K) → new q ≡ old q

  -- Each key that has a value in `old` has the same value in `new`.
  abbrev pub Keeps : (K → Option B) → (K → Option B) → Type 0
  Keeps old new = (q : K) (v : B) → old q ≡ Some v → new q ≡ Some v

  -- `new` has v at each key that equals k, and is `old` at every other key.
  abbrev pub Adds : (K → K → Bool) → (K → Option B) → (K → Option B) → K → B → Type 0
  Adds eq old new k v = (q : K) → (eq k q ≡ true → new q ≡ Some v) × (eq k q ≡ false → new q ≡ old q)

  -- The content after an insertion: a present key keeps its value, and an absent key has the given
  -- value.
  abbrev pub inserted : (K → K → Bool) → (K → Option B) → K → B → K → Option B
  inserted eq content k v q = if is_some (content k) then content q else (if eq k q then Some v else content q)

  -- Both lists of entries have the same content.
  abbrev pub IsSameContent : (K → K → Bool) → List (K × B) → List (K × B) → Type 0
  IsSameContent eq old new = (q : K) → value_at eq new q ≡ value_at eq old q

  -- The new entries have the content of the old ones after an insertion.
  abbrev pub IsInserted : (K → K → Bool) → List (K × B) → K → B → List (K × B) → Type 0
  IsInserted eq old k v new = (q : K) → value_at eq new q ≡ inserted eq (value_at eq old) k v q

  -- The entries have, at each key, the value of the last pair with that key.
  abbrev pub IsCollected : (K → K → Bool) → List (K × B) → List (K × B) → Type 0
  IsCollected eq pairs entries = (q : K) → value_at eq entries q ≡ value_at eq (reverse pairs) q

-- `new` is `old` after an insertion of v under k that succeeded: unchanged if k has a value,
-- otherwise with a borrow under k that shows v's target.
abbrev pub Inserts : {K V B T : Type 0} → (K → K → Bool) → (V → T) → (B → T) → (K → Option B) → K → V → (K → Option B) → Type 0
Inserts {B = B} eq target shown old k v new =
    ((x : B) → old k ≡ Some x → SameAt old new) × (old k ≡ None → (b : B) × (shown b ≡ target v) × Adds eq old new k b)

-- The entries have, at each key, the target of the last of the pairs whose key equals it, and
-- nothing at other keys.
abbrev pub HoldsLast : {K V B T : Type 0} → (K → K → Bool) → (V → T) → (B → T) → List (K × V) → List (K × B) → Type 0
HoldsLast {K} eq target shown pairs entries = (q : K) → option_map shown (value_at eq entries q) ≡ option_map target (value_at eq (reverse pairs) q)

-- ---- equality, keys and clones

module _ {K B : Type 0} (eq : K → K → Bool) where
  -- Both maps have the same keys, and at each key values that are equal by `same`.
  abbrev pub IsEqualMap : (B → B → Bool) → List (K × B) → List (K × B) → Type 0
  IsEqualMap same these those = (q : K) → option_eq same (value_at eq these q) (value_at eq those q) ≡ true

  -- The test of that equality, at each key of either map.
  abbrev pub same_values : (B → B → Bool) → List (K × B) → List (K × B) → Bool
  same_values same these those = entries_eq eq (λ p q. same p.1 q.1) these those

  -- The list has exactly the keys of the content, each once.
  abbrev pub IsKeys : (K → Option B) → List K → Type 0
  IsKeys content keys = IsDistinct eq keys × ((q : K) → is_some (content q) ≡ is_member eq keys q)

  -- The content has `count` keys.
  abbrev pub HasCount : (K → Option B) → ℕ → Type 0
  HasCount content count = (keys : List K) × IsKeys content keys × (length keys ≡ count)

-- A clone of a key equals the key.
abbrev pub CloneIsEqual : {K : Type 0} → (K → K → Type 0) → (K → K → Bool) → Type 0
CloneIsEqual {K} is_clone eq = (key clone : K) → is_clone key clone → eq key clone ≡ true
