-- The entries of a map in the order of their insertion, of which there are at most 2^32 - 1.
use Rattle.std.specs.Prelude.{◌≡◌, ℕ, List, length}
use Rattle.elsa_buckets.specs.Table.{most_indices}
use Rattle.elsa_buckets.specs.declared.append_map.RoomFault.{RoomFault}
use Rattle.elsa_buckets.specs.declared.append_map.RoomFault.TheVariants.{Full, Memory}

-- The greatest number of entries: the table has no more indices.
abbrev pub most_entries : ℕ
most_entries = most_indices

-- There is no index for a further entry.
abbrev pub IsFull : {X : Type 0} → List X → Type 0
IsFull entries = length entries ≡ most_entries

-- P, if the reservation failed because there are too few indices; Q, if an allocation failed.
abbrev pub IfRoomFault : RoomFault → Type 0 → Type 0 → Type 0
IfRoomFault Full P Q = P
IfRoomFault Memory P Q = Q
