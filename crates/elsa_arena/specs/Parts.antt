-- The two parts of the state of a list that are in cells of their own.
use Rattle.std.specs.Prelude.{ℕ, suc, ◌≡◌, ◌<◌, ◌≤◌, List, drop, length}
use Rattle.elsa_slots.specs.Ahead.{IsOpenAt}
use Rattle.elsa_arena.specs.declared.list_cell.NextSlot.{NextSlot}
use Rattle.elsa_arena.specs.declared.list_cell.Later.{Later}
use Rattle.elsa_arena.specs.Ready.{AreReady}

-- The next slot of the open buffer of a list with these buffers: the evidence is that of all items,
-- and the next index is in this slot, which isn't the first one of its buffer. The rights are those
-- to the slots from there on. Those to open later buffers are in the other cell.
pub record IsNextSlotOf {T A : Type 0} (buffers : List ℕ) (o : NextSlot T A) : Type 0 where
  pub names : o.prefix.buffer_slots ≡ buffers
  pub count : o.count ≡ length o.prefix.items
  pub openable : o.buffer < 31
  pub later : 0 < o.slot
  pub at : IsOpenAt buffers o.count o.buffer o.slot o.opened.of o.opened.value.0 o.slots.of (drop (suc o.buffer) buffers)

-- What a list with these buffers needs to open the buffers from `first` on: the rights, and those of
-- the buffers that are ready.
pub record IsLaterOf {T A : Type 0} (buffers : List ℕ) (l : Later T A) : Type 0 where
  pub all : length buffers ≡ 31
  pub few : l.first ≤ 31
  pub rights : l.further.of ≡ drop l.first buffers
  pub ready : AreReady l.further.of l.ready.items
