-- Index entries, each a tag and a number that change once, from 0, and how an index is found among
-- them.
-- A probe for a hash reads one group of sixteen tags after the other and stops at the first in which a
-- tag is 0. So an index is found if no tag is 0 in the groups that the probe for its hash reads before
-- the group of this index. That stays true, whatever is entered later.
use Rattle.std.specs.Prelude.{◌≡◌, ℕ, ◌+◌, ◌-◌, ◌*◌, ◌/◌, ◌%◌, ◌^◌, ◌<◌, ◌≤◌, ◌==◌, if◌then◌else◌}

-- Eight bits on which all bits of a hash have an effect: its high bits choose where a probe begins,
-- and its low ones may choose a shard.
unfoldable pub mixed : ℕ → ℕ
mixed hash = hash * 2654435761 % 2 ^ 64 / 2 ^ 24 % 256

-- The tag of a hash: its mixed bits, or 1 if they are 0.
unfoldable pub tag_of : ℕ → ℕ
tag_of hash = if mixed hash == 0 then 1 else mixed hash

-- The number of groups that have `count` index entries. The last may have more.
abbrev pub groups_of : ℕ → ℕ
groups_of count = (count + 15) / 16

-- The digit of the number of the index entry at `at`, in a row for `count`. The digit of its tag is
-- `at`.
unfoldable pub number_of : ℕ → ℕ → ℕ
number_of count at = 8 * (2 * groups_of count + at / 2) + at % 2

-- The group, of `count`, at which a probe for the hash begins. The hash has 32 bits; its part of all
-- hashes is that of the start in the row.
unfoldable pub start : ℕ → ℕ → ℕ
start count hash = hash * count / 2 ^ 32

-- The group, of `count`, that a probe for the hash reaches after `step` steps. After the last group it
-- continues with the first.
unfoldable pub walk : ℕ → ℕ → ℕ → ℕ
walk count hash step = (start count hash + step) % count

-- The index entry with the number `lane` in the group that a probe for the hash reaches after `step`
-- steps, in a row for `count` index entries.
abbrev pub slot : ℕ → ℕ → ℕ → ℕ → ℕ
slot count hash step lane = 16 * walk (groups_of count) hash step + lane

-- A probe for some hash begins at this group, or less than count / 2 ^ 32 before it. So it begins
-- there if the number of groups is at most 2 ^ 32, the number of hashes.
abbrev pub IsNearStart : ℕ → ℕ → Type 0
IsNearStart count at =
    (hash : ℕ) × (hash < 2 ^ 32) × (start count hash ≤ at) × ((at - start count hash) * 2 ^ 32 < count)

-- The tags and numbers were `before`, and then `after`: each one that was not 0 is unchanged.
abbrev pub IsLater : (ℕ → ℕ) → (ℕ → ℕ) → Type 0
IsLater before after = (i : ℕ) → 0 < before i → after i ≡ before i

-- A probe for the hash continues for `step` steps: no tag of the groups before that is 0.
abbrev pub PassesFilled : ℕ → (ℕ → ℕ) → ℕ → ℕ → Type 0
PassesFilled count words hash step = (k lane : ℕ) → k < step → lane < 16 → 0 < words (slot count hash k lane)

-- A probe for the hash reaches the group with the index entry of `index`: the hash's tag, and the
-- number that is 1 more than the index.
pub record IsIndexed (count : ℕ) (words : ℕ → ℕ) (hash index : ℕ) : Type 0 where
  pub step : ℕ
  pub lane : ℕ
  pub within : step < groups_of count
  pub in_group : lane < 16
  pub tagged : words (slot count hash step lane) ≡ tag_of hash
  pub there : words (number_of count (slot count hash step lane)) ≡ index + 1
  pub goes_on : PassesFilled count words hash step
