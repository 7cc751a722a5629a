-- Lists of entries, each with evidence of a row that finds its key and those of all entries before
-- it.
use Rattle.std.specs.Prelude.{◌≡◌, ℕ, ◌+◌, ◌*◌, ◌/◌, ◌≤◌, Bool, false, List, [], ◌∷◌, ◌++◌, length, map, take, slice_get, Some}
use Rattle.elsa_hash_index.specs.declared.entry.Entry.{Entry}
use Rattle.elsa_hash_index.specs.declared.row.Event.{Event}
use Rattle.elsa_hash_index.specs.Row.{word_at, count_of, builder_of}
use Rattle.elsa_hash_index.specs.Words.{IsIndexed}

-- Each item is new to those before it.
abbrev pub EachIsNew : {T : Type 0} → (List T → T → Type 0) → List T → Type 0
EachIsNew {T} is_new xs = (i : ℕ) (x : T) → slice_get xs i ≡ Some x → is_new (take i xs) x

module _ {K : Type 0} where
  -- No key of the list matches the query x: by the equality of keys, or by a test of the query.
  abbrev pub IsAbsent : {Q : Type 0} → (Q → K → Bool) → List K → Q → Type 0
  IsAbsent equal xs x = (i : ℕ) (y : K) → slice_get xs i ≡ Some y → equal x y ≡ false

  -- Each key is found under its hash, at its index.
  abbrev pub IndexesKeys : (K → ℕ) → ℕ → (ℕ → ℕ) → List K → Type 0
  IndexesKeys hash count words keys = (i : ℕ) (y : K) → slice_get keys i ≡ Some y → IsIndexed count words (hash y) i

  -- By what was observed of its row, each key is found, under the hash that the row's builder
  -- defines.
  pub record Indexes {S : Type 0} (hash : S → K → ℕ) (log : List (Event S)) (keys : List K) : Type 0 where
    pub builder : S
    pub built : builder_of log ≡ Some builder
    pub all : IndexesKeys (hash builder) (count_of log) (λ k. word_at k log) keys

-- A row of `count` index entries is long enough for `n` keys, if a third of it is to stay 0 so that
-- a probe soon ends; and it has at most six index entries for each key.
abbrev pub HasLoad : ℕ → ℕ → Type 0
HasLoad count n = (n + count / 3 ≤ count) × (count ≤ 6 * n)

module _ {K V S : Type 0} where
  -- The key of an entry.
  abbrev pub key_of : Entry K V S → K
  key_of e = e.key

  -- The keys of a list.
  abbrev pub keys_of : List (Entry K V S) → List K
  keys_of es = map key_of es

  -- An entry may follow these entries: its key equals none of their keys; by its evidence all
  -- their keys and its own are found, and their row has a load for them.
  pub record IsBehind (equal : K → K → Bool) (hash : S → K → ℕ) (es : List (Entry K V S)) (e : Entry K V S) : Type 0 where
    pub absent : IsAbsent equal (keys_of es) e.key
    pub indexes : Indexes hash e.seen.log (keys_of es ++ e.key ∷ [])
    pub load : HasLoad (count_of e.seen.log) (length es + 1)
