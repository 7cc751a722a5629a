-- A hash table from hashes to indices: its groups of buckets, and the hash of each index.
use Rattle.std.specs.Prelude.{◌≡◌, ℕ, ◌+◌, ◌-◌, ◌^◌, ◌<◌, ◌≤◌, ◌⊎◌, List, [], ◌∷◌, ◌++◌, Some, length, slice_get}
use Rattle.elsa_buckets.specs.declared.groups.Group.{Group}
use Rattle.elsa_buckets.specs.declared.table.Vacancy.{Vacancy}
use Rattle.elsa_buckets.specs.Groups.{load_limit, wider_count, EndsAt, IsFewest}

-- The value of a table: its groups of buckets, and the hash of each index.
abbrev pub Entries : Type 0
Entries = List Group × List ℕ

-- The hash of each index.
abbrev pub hashes : Entries → List ℕ
hashes table = table.1

-- The number of indices in the table.
abbrev pub indices : Entries → ℕ
indices table = length (hashes table)

-- The greatest number of indices: their number has 32 bits.
abbrev pub most_indices : ℕ
most_indices = 2 ^ 32 - 1

-- A bucket has a number for each of `count` indices.
abbrev pub IsCount : ℕ → Type 0
IsCount count = count ≤ most_indices

-- The number of groups of the table.
abbrev pub groups : Entries → ℕ
groups table = length table.0

-- The table has `index` under the hash.
abbrev pub Has : Entries → ℕ → ℕ → Type 0
Has table hash index = slice_get (hashes table) index ≡ Some hash

-- A search for the hash ended at this vacancy, unless the vacancy is in none of the groups.
abbrev pub IsVacancy : Entries → ℕ → Vacancy → Type 0
IsVacancy table hash vacancy = vacancy.bucket.group < groups table → EndsAt table.0 hash vacancy.bucket

-- A probe for the hash ends at this vacancy, and the groups suffice for another index: an index
-- under the hash can go there.
abbrev pub IsRoom : Entries → ℕ → Vacancy → Type 0
IsRoom table hash vacancy = EndsAt table.0 hash vacancy.bucket × indices table < load_limit (groups table)

-- If the groups suffice for another index and the vacancy is in one of them, their number is
-- unchanged; otherwise it is unchanged or grows once.
pub record Widens (before : Entries) (vacancy : Vacancy) (after : Entries) : Type 0 where
  pub stays : indices before < load_limit (groups before) → vacancy.bucket.group < groups before → groups after ≡ groups before
  pub grows : (groups after ≡ groups before) ⊎ (groups after ≡ wider_count (groups before))

-- The groups suffice for `more` additional indices. Their number is that of before, or the
-- smallest one, by doubling, that suffices.
pub record HasRoom (before : Entries) (more : ℕ) (after : Entries) : Type 0 where
  pub enough : indices after + more ≤ load_limit (groups after)
  pub fewest : (groups after ≡ groups before) ⊎ IsFewest (groups before) (indices before + more) (groups after)

-- The indices afterwards are those of before, each under its hash.
abbrev pub HasSame : Entries → Entries → Type 0
HasSame before after = hashes after ≡ hashes before

-- The indices afterwards are those of before, each under its hash, and the next index, which is
-- `index`, under `hash`.
abbrev pub AddsIndex : Entries → ℕ → ℕ → Entries → Type 0
AddsIndex before hash index after = (index ≡ indices before) × (hashes after ≡ hashes before ++ hash ∷ [])
