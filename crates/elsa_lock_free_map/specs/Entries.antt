-- What a map's list holds: entries of a key and a value, each with evidence of the row in which its key was entered.
use Rattle.std.specs.Prelude.{◌≡◌, ℕ, ◌+◌, ◌*◌, ◌/◌, ◌%◌, ◌^◌, ◌<◌, ◌≤◌, ◌⊎◌, Bool, true, false, List, [], ◌∷◌, ◌++◌, length, map, slice_get, Some}
use Rattle.std.specs.Borrow.{Bor}
use Rattle.std.specs.Str.{bytes_eq}
use Rattle.elsa_hash_index.specs.declared.entry.Entry.{Entry}
use Rattle.elsa_hash_index.specs.Entries.{IsAbsent, IsBehind, keys_of}
use Rattle.elsa_lock_free.specs.SharedList.{PushesNext, View, items_of, mine}
use Rattle.elsa_tables.specs.declared.put.Inserted.{Inserted}
use Rattle.elsa_lock_free.specs.declared.may_lock.AttemptFault.{AttemptFault}
use Rattle.elsa_lock_free.specs.declared.may_lock.AttemptFault.TheVariants.{Busy, Failed}

-- 32 bits of a hash, of which each depends on all 64
abbrev pub short : ℕ → ℕ
short hash = (hash * 11400714819323198485) % 2 ^ 64 / 2 ^ 32

module _ {K V S : Type 0} where
  -- an entry as an iterator returns it: its key and its value
  abbrev pub pair_of : Entry K V S → K × V
  pair_of e = (e.key, e.value)

  -- entries as an iterator returns them
  abbrev pub pairs_of : List (Entry K V S) → List (K × V)
  pairs_of es = map pair_of es

  -- an entry that may be appended to a list: its key is new, and it is found by its own evidence, like all entries before
  -- it; up to the greatest length
  abbrev pub MayFollow : (K → K → Bool) → (S → K → ℕ) → List (Entry K V S) → Entry K V S → Type 0
  MayFollow equal hash es e = IsBehind equal hash es e × (length es + 1 < 2 ^ 32)

  -- each value holds for its key
  abbrev pub HoldsEach : (K → V → Type 0) → List (Entry K V S) → Type 0
  HoldsEach holds es = (i : ℕ) (e : Entry K V S) → slice_get es i ≡ Some e → holds e.key e.value

  -- by a test for equal keys, or by a query
  module _ {Q : Type 0} (equal : Q → K → Bool) where
    -- an entry of the key, with this value, is at the index
    abbrev pub HasAt : List (Entry K V S) → ℕ → Q → V → Type 0
    HasAt es i key value = (e : Entry K V S) × (slice_get es i ≡ Some e) × (equal key e.key ≡ true) × (e.value ≡ value)

    -- At the index is an entry whose key the query finds.
    abbrev pub IsAt : List (Entry K V S) → ℕ → Q → Type 0
    IsAt es i query = (e : Entry K V S) × (slice_get es i ≡ Some e) × (equal query e.key ≡ true)

    -- The key has this value, at some index.
    abbrev pub Has : List (Entry K V S) → Q → V → Type 0
    Has es key value = (i : ℕ) × HasAt es i key value

    -- the entry at the index has this key and this value, and the query finds the key
    abbrev pub FindsAt : List (Entry K V S) → ℕ → Q → K → V → Type 0
    FindsAt es i query key value =
        (e : Entry K V S) × (slice_get es i ≡ Some e) × (equal query e.key ≡ true) × (e.key ≡ key) × (e.value ≡ value)

    -- no entry has the key
    abbrev pub Lacks : List (Entry K V S) → Q → Type 0
    Lacks es key = IsAbsent equal (keys_of es) key

-- two lists of entries have an entry of a key at one index, with one value
abbrev pub AgreeOnEntries : {K V S : Type 0} → (K → K → Bool) → List (Entry K V S) → List (Entry K V S) → Type 0
AgreeOnEntries {K} {V} equal xs ys =
    (key : K) (i j : ℕ) (v w : V) → HasAt equal xs i key v → HasAt equal ys j key w → (i ≡ j) × (v ≡ w)

-- Whether a text, as a query, finds a key: the key has the same bytes.
abbrev pub is_text : List ℕ → Bor (List ℕ) → Bool
is_text text key = bytes_eq text key.now

-- the writer of the view has pushed an entry with this key and value right after the observed prefix
abbrev pub PushesPair : {K V S : Type 0} → View (Entry K V S) → View (Entry K V S) → K → V → Type 0
PushesPair {K} {V} {S} before after key value = (e : Entry K V S) × (e.key ≡ key) × (e.value ≡ value) × PushesNext before after e

-- a key has this index: it was pushed by the writer of the view after the observed prefix, or was present
abbrev pub Came : {T : Type 0} → Bool → View T → View T → ℕ → Type 0
Came true before after i = (length before.seen ≤ i) × (mine after ≡ mine before ++ i ∷ [])
Came false before after i = mine after ≡ mine before

-- The effect of a successful insertion: the value that the key then has is at the index, pushed by the writer of the
-- view or present before; an observed entry of the key stays.
abbrev pub InsertsOnce : {Q K V S : Type 0} → (Q → K → Bool) → View (Entry K V S) → View (Entry K V S) → Q → Inserted V ℕ → Type 0
InsertsOnce {V = V} equal before after key r =
    HasAt equal (items_of after.seen) r.index key r.value × Came r.is_new before after r.index
    × ((j : ℕ) (v : V) → HasAt equal (items_of before.seen) j key v → (r.index ≡ j) × (r.value ≡ v) × (r.is_new ≡ false))

-- the effect of a successful insertion by a query: the key that it finds stays with its value, or what was made for a
-- query without a key was inserted
abbrev pub GetsOrInserts : {Q K V S : Type 0} → (K → K → Bool) → (Q → K → Bool) → (K → V → Type 0) → View (Entry K V S) → View (Entry K V S) → Q → Inserted V ℕ → Type 0
GetsOrInserts {K = K} {V = V} equal finds made before after query r =
    ((r.is_new ≡ false) × InsertsOnce finds before after query r)
    ⊎ ((key : K) × (value : V) × made key value × Lacks finds (items_of before.seen) query
    × InsertsOnce equal before after key r × (r.is_new ≡ true → r.value ≡ value))

-- the effect of a successful insertion of which a call returns the index alone
abbrev pub InsertsAt : {Q K V S : Type 0} → (Q → K → Bool) → View (Entry K V S) → View (Entry K V S) → Q → ℕ → Type 0
InsertsAt {V = V} equal before after key index =
    (value : V) × (is_new : Bool) × InsertsOnce equal before after key (record { value = value; index = index; is_new = is_new })

-- the fault of an insertion with the key alone
abbrev pub alone : {K V E : Type 0} → AttemptFault (K × V) E → AttemptFault K E
alone (Busy pair) = Busy pair.0
alone (Failed e) = Failed e
