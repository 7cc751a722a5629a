-- Buffers that are ready before an item needs them: an item that has room in one takes no memory.
use Rattle.std.specs.Prelude.{ℕ, suc, ◌≡◌, ◌+◌, ◌-◌, ◌≤◌, List, [], ◌∷◌, length}
use Rattle.elsa_slots.specs.Geometry.{size_of, slots_before}
use Rattle.elsa_arena.specs.declared.state.Fresh.{Fresh}
use Rattle.elsa_arena.specs.declared.state.State.{State}

module _ {T A : Type 0} where
  -- Buffers that aren't open, in their order, from the buffer `first` on: each has its size, and
  -- the rights to all its slots.
  abbrev pub AreNext : ℕ → List (Fresh T A) → Type 0
  AreNext first [] = Unit {0}
  AreNext first (f ∷ fs) = (length f.buffer.0 ≡ size_of first) × (f.slots.of ≡ f.buffer.0) × AreNext (suc first) fs

  -- The buffer after those that are ready, if `further` are the rights to open the buffers that
  -- aren't open.
  abbrev pub end_of : List ℕ → List (Fresh T A) → ℕ
  end_of further fs = (31 - length further) + length fs

  -- The buffers that are ready are the first of those that aren't open.
  pub record AreReady (further : List ℕ) (fs : List (Fresh T A)) : Type 0 where
    pub next : AreNext (31 - length further) fs
    pub few : end_of further fs ≤ 31

  -- The number of items that a list can have before it needs a buffer that isn't ready.
  abbrev pub capacity_of : State T A → ℕ
  capacity_of s = slots_before (end_of s.ahead.further.of s.ready.items)
