-- The buckets of a hash table, in groups of twelve, and how an index is found in them. A probe for a
-- hash visits one group after the other, and ends at the first one that has a free bucket. So an
-- index is found if the probe for its hash reaches its group through full groups only. That stays
-- true, because a taken bucket never changes. The order of a probe is left open: `walk` may be any
-- order of the groups.
use Rattle.std.specs.Prelude.{◌≡◌, ◌≢◌, ℕ, ◌+◌, ◌-◌, ◌*◌, ◌/◌, ◌%◌, ◌^◌, ◌<◌, ◌⊎◌, List, Some, length, max, min, replicate, slice_get, slice_index, slice_index_or, bit_and}
use Rattle.elsa_buckets.specs.declared.groups.Group.{Group}
use Rattle.elsa_buckets.specs.declared.groups.Bucket.{Bucket}
use Rattle.elsa_buckets.specs.declared.groups.Size.{Size}

-- The tag of a hash: its upper eight bits, and at least 1, because 0 marks a free bucket.
unfoldable pub hash_tag : ℕ → ℕ
hash_tag hash = max (hash / 2 ^ 24) 1

-- The tag in a bucket of the group.
abbrev pub tag_in : Group → ℕ → ℕ
tag_in group lane = slice_index group.tags lane

-- The index in a bucket of the group.
abbrev pub number_in : Group → ℕ → ℕ
number_in group lane = slice_index group.numbers lane

-- A group of free buckets.
abbrev pub empty_group : Group
empty_group = record { tags = replicate 16 0; numbers = replicate 12 0 }

-- The group with number i.
abbrev pub group_at : List Group → ℕ → Group
group_at groups i = slice_index_or groups i empty_group

-- All buckets of the group are taken.
abbrev pub IsFull : Group → Type 0
IsFull group = (lane : ℕ) → lane < 12 → 0 < tag_in group lane

-- Afterwards the bucket has the tag of the hash, and the index. The other buckets are unchanged.
pub record Fills (before : Group) (lane hash index : ℕ) (after : Group) : Type 0 where
  pub tag : tag_in after lane ≡ hash_tag hash
  pub number : number_in after lane ≡ index
  pub other_tags : (k : ℕ) → k ≢ lane → tag_in after k ≡ tag_in before k
  pub other_numbers : (k : ℕ) → k ≢ lane → number_in after k ≡ number_in before k

-- The group, of `count`, that a probe for the hash reaches after `step` steps.
unfoldable pub walk : ℕ → ℕ → ℕ → ℕ
walk count hash step = bit_and ((hash + step) % 2 ^ 64) (count - 1)

-- The content of the group that a probe for the hash reaches after `step` steps.
abbrev pub probed : List Group → ℕ → ℕ → Group
probed groups hash step = group_at groups (walk (length groups) hash step)

-- A probe for the hash continues for `step` steps: the groups before that step are full.
abbrev pub PassesFull : List Group → ℕ → ℕ → Type 0
PassesFull groups hash step = (k : ℕ) → k < step → IsFull (probed groups hash k)

-- A probe for the hash reaches group i.
pub record Reaches (groups : List Group) (hash i : ℕ) : Type 0 where
  pub step : ℕ
  pub within : step < length groups
  pub there : walk (length groups) hash step ≡ i
  pub goes_on : PassesFull groups hash step

-- A probe for the hash ends at this bucket, which is free.
pub record EndsAt (groups : List Group) (hash : ℕ) (bucket : Bucket) : Type 0 where
  pub within : bucket.group < length groups
  pub in_group : bucket.lane < 12
  pub vacant : tag_in (group_at groups bucket.group) bucket.lane ≡ 0
  pub reached : Reaches groups hash bucket.group

-- A probe for the hash reaches the group of a bucket that has the index, with the tag of the hash.
pub record Stores (groups : List Group) (hash index : ℕ) : Type 0 where
  pub at : ℕ
  pub lane : ℕ
  pub in_group : lane < 12
  pub tag : tag_in (group_at groups at) lane ≡ hash_tag hash
  pub number : number_in (group_at groups at) lane ≡ index
  pub reached : Reaches groups hash at

-- A taken bucket of the group has one of `count` indices.
abbrev pub TakenBelow : Group → ℕ → Type 0
TakenBelow group count = (lane : ℕ) → lane < 12 → 0 < tag_in group lane → number_in group lane < count

-- A taken bucket has one of `count` indices.
abbrev pub AllTakenBelow : List Group → ℕ → Type 0
AllTakenBelow groups count = (at : ℕ) → at < length groups → TakenBelow (group_at groups at) count

-- The index in each of the first `lanes` buckets of the group `from` is stored, under its hash.
abbrev pub StoresAll : List Group → List ℕ → Group → ℕ → Type 0
StoresAll groups hashes from lanes = (lane hash : ℕ) → lane < lanes → 0 < tag_in from lane → slice_get hashes (number_in from lane) ≡ Some hash → Stores groups hash (number_in from lane)

-- A probe for each hash finds its index, and a taken bucket has the index of a hash.
pub record Indexes (groups : List Group) (hashes : List ℕ) : Type 0 where
  pub stored : (i hash : ℕ) → slice_get hashes i ≡ Some hash → Stores groups hash i
  pub only : (at lane : ℕ) → at < length groups → lane < 12 → 0 < tag_in (group_at groups at) lane → number_in (group_at groups at) lane < length hashes

-- The number of indices for which `count` groups suffice: nine for each group, and three more, but
-- never more than there are buckets.
abbrev pub load_limit : ℕ → ℕ
load_limit count = min (12 * count) (9 * count + 3)

-- The number of groups after growth: the first table has one group. The number quadruples until it
-- is sixteen, and then doubles.
abbrev pub wider_count : ℕ → ℕ
wider_count count = max 1 (max (2 * count) (min (4 * count) 16))

-- The limit is that of the number of groups.
abbrev pub IsSize : Size → Type 0
IsSize size = size.limit ≡ load_limit size.count

-- The number `count` is `from`, or the smallest number of groups, or half of it would not suffice
-- for `indices` indices.
abbrev pub IsFewest : ℕ → ℕ → ℕ → Type 0
IsFewest from indices count = (count ≡ from) ⊎ (count ≡ 1) ⊎ load_limit (count / 2) < indices
