-- What was observed of a collection: a prefix of its list, which only grows at its end.
use Rattle.std.specs.Prelude.{ℕ, ◌≡◌, ◌<◌, ◌^◌, List, [], ◌∷◌, ◌++◌, Some, length, slice_get}
use mathlib.Core.List.{IsPrefix}
use Rattle.elsa_slots.specs.Ahead.{GoesOn}
use Rattle.elsa_slots.specs.Geometry.{IsAt}
use Rattle.elsa_arena.specs.declared.state.State.{State}
use Rattle.elsa_arena.specs.Ready.{AreReady}

-- What was observed: the collection, by the names of its buffers, and the prefix of its list. A lock
-- guard of a map or set: its collection, and the whole list.
pub record View (T : Type 0) : Type 0 where
  pub vector : List ℕ
  pub seen : List T

-- A lock guard of a list: the list, by the names of its buffers, all its items, and the number of
-- items that it can have before a push needs memory.
pub record Whole (T : Type 0) : Type 0 where
  pub vector : List ℕ
  pub seen : List T
  pub capacity : ℕ

module _ {T : Type 0} where
  -- the fact holds of each item
  abbrev pub EachHolds : (T → Type 0) → List T → Type 0
  EachHolds holds items = (i : ℕ) (x : T) → slice_get items i ≡ Some x → holds x

  -- What a lock guard has observed: all items.
  abbrev pub view_of : Whole T → View T
  view_of w = record { vector = w.vector; seen = w.seen }

  -- What was observed of the same collection later: as much or more.
  pub record Continues (before after : View T) : Type 0 where
    pub same : after.vector ≡ before.vector
    pub seen : IsPrefix before.seen after.seen

  -- The list was `old`, or longer by items of other calls; then `x` was appended at the index
  -- `index`.
  abbrev pub Appends : List T → List T → ℕ → T → Type 0
  Appends old new index x = (before : List T) × IsPrefix old before × (length before ≡ index) × (new ≡ before ++ x ∷ [])

-- The state of a collection with these buffers: its length, the slot of the next index, the evidence
-- of all its items, the rights to the slots after them, and the buffers that are ready.
pub record IsStateOf {T A : Type 0} (buffers : List ℕ) (s : State T A) : Type 0 where
  pub names : s.prefix.buffer_slots ≡ buffers
  pub all : length buffers ≡ 31
  pub count : s.count ≡ length s.prefix.items
  pub limit : s.count < 2 ^ 62
  pub index : IsAt s.count s.buffer s.slot
  pub ahead : GoesOn buffers s.count s.ahead.opened s.ahead.slots.of s.ahead.further.of
  pub ready : AreReady s.ahead.further.of s.ready.items
