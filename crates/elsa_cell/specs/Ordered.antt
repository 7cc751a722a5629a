-- An ordered table: the indices of keys in a list, in the ascending order of the keys.
use Rattle.std.specs.Prelude.{ℕ, ◌≡◌, ◌+◌, ◌<◌, ◌≤◌, false, List, [], ◌∷◌, Option, None, Some, IsPermutation, length, map, slice_get, take}
use Rattle.std.specs.declared.cmp.Ordering.{Ordering}
use Rattle.std.specs.declared.cmp.Ordering.TheVariants.{Less, Greater}
use Rattle.std.specs.List.{AllByRecursion, flat_map, range_with_len}
use Rattle.std.specs.List.Sorted.{IsStrictlySortedBy}
use Rattle.std.specs.Ordering.{is_gt, is_lt}
use Rattle.elsa_cell.specs.Entries.{key_of}
use Rattle.elsa_cell.specs.declared.map.Entry.{Entry}

module _ {K : Type 0} where
  -- The table `order` has at the rank `r` the index of the key `x`.
  abbrev pub HasAt : List ℕ → List K → ℕ → K → Type 0
  HasAt order keys r x = (i : ℕ) × (slice_get order r ≡ Some i) × (slice_get keys i ≡ Some x)

  -- The table has the index of each key once, and a key is less than those at higher ranks.
  pub record IsOrdered (cmp : K → K → Ordering) (order : List ℕ) (keys : List K) : Type 0 where
    pub all : IsPermutation (range_with_len 0 (length keys)) order
    pub ascending : (r s : ℕ) (x y : K) → r < s → HasAt order keys r x → HasAt order keys s y → cmp x y ≡ Less

  -- What is compared by `against` is greater than the keys below the rank `low`, and less than those
  -- from the rank `high` on.
  pub record IsBetween (against : K → Ordering) (order : List ℕ) (keys : List K) (low high : ℕ) : Type 0 where
    pub below : (r : ℕ) (x : K) → r < low → HasAt order keys r x → against x ≡ Greater
    pub above : (r : ℕ) (x : K) → high ≤ r → HasAt order keys r x → against x ≡ Less

  -- no key is less
  abbrev pub IsLeast : (K → K → Ordering) → K → List K → Type 0
  IsLeast cmp x keys = (i : ℕ) (y : K) → slice_get keys i ≡ Some y → is_gt (cmp x y) ≡ false

  -- no key is greater
  abbrev pub IsGreatest : (K → K → Ordering) → K → List K → Type 0
  IsGreatest cmp x keys = (i : ℕ) (y : K) → slice_get keys i ≡ Some y → is_lt (cmp x y) ≡ false

  -- The search for a key ended at the rank at which its index would be.
  pub record IsGap (against : K → Ordering) (order : List ℕ) (keys : List K) (gap : ℕ) : Type 0 where
    pub within : gap ≤ length order
    pub between : IsBetween against order keys gap gap

-- A table in blocks: `of` has the indices of a block.
module _ {B : Type 0} (of : B → List ℕ) where
  -- The indices of all blocks, in order: the table.
  abbrev pub joined : List B → List ℕ
  joined = flat_map of

  -- The rank of the first index of the block `at`.
  abbrev pub rank_of : List B → ℕ → ℕ
  rank_of blocks at = length (joined (take at blocks))

  -- If there are several blocks, none is empty.
  abbrev pub IsFilled : List B → Type 0
  IsFilled blocks = 1 < length blocks → AllByRecursion (λ b. 0 < length (of b)) blocks

  -- There is a block `at`, and `position` is one of its positions or its end.
  abbrev pub HasPosition : List B → ℕ → ℕ → Type 0
  HasPosition blocks at position = (b : B) × (slice_get blocks at ≡ Some b) × (position ≤ length (of b))

  -- There is a block `at`, it has room, and `position` is one of its positions or its end.
  abbrev pub HasRoomAt : (B → ℕ) → List B → ℕ × ℕ → Type 0
  HasRoomAt room blocks end = (b : B) × (slice_get blocks end.0 ≡ Some b) × (end.1 ≤ length (of b)) × (length (of b) < room b)

  -- A walk is before the index at `position` of the block `at`, or at its end, and `left` are left.
  pub record IsWalkAt (blocks : List B) (at position left : ℕ) : Type 0 where
    pub filled : IsFilled blocks
    pub counted : rank_of blocks at + position + left ≡ length (joined blocks)
    pub there : 0 < left → (b : B) × (slice_get blocks at ≡ Some b) × (position < length (of b))

-- What is at an index, if there is something, before a list.
abbrev pub before_rest : {X : Type 0} → Option X → List X → List X
before_rest None xs = xs
before_rest (Some x) xs = x ∷ xs

-- The items of a list at these indices.
abbrev pub picked : {X : Type 0} → List X → List ℕ → List X
picked xs [] = []
picked xs (i ∷ is) = before_rest (slice_get xs i) (picked xs is)

module _ {K V : Type 0} where
  -- `all` has these entries, in the ascending order of their keys.
  pub record IsInOrder (cmp : K → K → Ordering) (entries all : List (Entry K V)) : Type 0 where
    pub same : IsPermutation entries all
    pub ascending : IsStrictlySortedBy cmp (map key_of all)

module _ {K B : Type 0} (of : B → List ℕ) where
  -- The blocks have the index of each key, in the ascending order of the keys.
  pub record IsTableFor (cmp : K → K → Ordering) (blocks : List B) (count : ℕ) (keys : List K) : Type 0 where
    pub ordered : IsOrdered cmp (joined of blocks) keys
    pub filled : IsFilled of blocks
    pub counted : count ≡ length keys

  -- The search for a key ended in a block, at the position at which its index would be.
  pub record IsBlockGap (against : K → Ordering) (blocks : List B) (keys : List K) (end : ℕ × ℕ) : Type 0 where
    pub gap : IsGap against (joined of blocks) keys (rank_of of blocks end.0 + end.1)
    pub there : 0 < length blocks → HasPosition of blocks end.0 end.1
