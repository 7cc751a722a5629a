-- The list that all threads of a vector share: entries of a writer and an item, which only grows at its end.
-- A pass has seen a beginning of it. There is no buffer, no lock, no pointer and no word of memory in it.
use Rattle.std.specs.Prelude.{ℕ, zero, suc, ◌≡◌, ◌+◌, ◌<◌, ◌≤◌, ◌==◌, List, [], ◌∷◌, ◌++◌, length, map, if◌then◌else◌, Contains, nat_le}
use mathlib.Core.List.{IsPrefix}
use Rattle.logbook.specs.Pages.{Book}
pub use Rattle.elsa_lock_free.specs.AtomicSteps.{bit}
use Rattle.elsa_slots.specs.Geometry.{slots_before}
use Rattle.elsa_lock_free.specs.declared.event.Entry.{Entry}

-- which vector a pass is of
abbrev pub Vector : Type 0
Vector = Book × List ℕ

module _ {T : Type 0} where
  -- the item of an entry
  abbrev pub item_of : Entry T → T
  item_of e = e.item

  -- The items of a list, without their writers.
  abbrev pub items_of : List (Entry T) → List T
  items_of es = map item_of es

  -- The entry of a writer and an item.
  abbrev pub entry : ℕ → T → Entry T
  entry writer item = record { writer = writer; item = item }

  -- a writer's entries for these items
  abbrev pub written_by : ℕ → List T → List (Entry T)
  written_by writer [] = []
  written_by writer (x ∷ xs) = entry writer x ∷ written_by writer xs

  -- Items without a writer, as those of a clone; a writer has a number above 0.
  abbrev pub copied : List T → List (Entry T)
  copied xs = written_by 0 xs

  -- the indices of a writer's entries in a list that begins at index `first`, rising
  abbrev pub indices_from : ℕ → ℕ → List (Entry T) → List ℕ
  indices_from writer first [] = []
  indices_from writer first (e ∷ es) = (if e.writer == writer then first ∷ [] else []) ++ indices_from writer (suc first) es

  -- the items of a writer's entries, in the order of the list
  abbrev pub pushed_by : ℕ → List (Entry T) → List T
  pushed_by writer [] = []
  pushed_by writer (e ∷ es) = (if e.writer == writer then e.item ∷ [] else []) ++ pushed_by writer es

  -- the number of entries of this writer
  abbrev pub count : ℕ → List (Entry T) → ℕ
  count writer [] = 0
  count writer (e ∷ es) = bit (e.writer == writer) + count writer es

  -- The list was `old`, or longer; then the entry was appended at the index `index`.
  abbrev pub Appends : List (Entry T) → List (Entry T) → ℕ → Entry T → Type 0
  Appends old new index e = (before : List (Entry T)) × IsPrefix old before × (length before ≡ index) × (new ≡ before ++ e ∷ [])

  -- the list was longer by some entries or none, and then these were appended, the first at this index, its end
  abbrev pub AppendsAll : List (Entry T) → List (Entry T) → ℕ → List (Entry T) → Type 0
  AppendsAll old new index es = (before : List (Entry T)) × IsPrefix old before × (length before ≡ index) × (new ≡ before ++ es)

-- `n` consecutive indices, from this one on
abbrev pub run : ℕ → ℕ → List ℕ
run index zero = []
run index (suc n) = index ∷ run (suc index) n

-- A view: its vector, the number of the writer as which it pushes, and its observed prefix of the list.
pub record View (T : Type 0) : Type 0 where
  pub vector : Vector
  pub writer : ℕ
  pub seen : List (Entry T)

module _ {T : Type 0} where
  -- The own indices of a view: those in its observed prefix at which it pushed.
  abbrev pub mine : View T → List ℕ
  mine pass = indices_from pass.writer 0 pass.seen

  -- The same view, later.
  abbrev pub IsSamePass : View T → View T → Type 0
  IsSamePass before after = (after.vector ≡ before.vector) × (after.writer ≡ before.writer)

  -- The same view later: it has observed as much or more.
  abbrev pub IsLaterPass : View T → View T → Type 0
  IsLaterPass before after = IsSamePass before after × IsPrefix before.seen after.seen

  -- The same view later: it has observed as much or more, and its own indices are unchanged.
  abbrev pub Continues : View T → View T → Type 0
  Continues before after = IsSamePass before after × IsPrefix before.seen after.seen × (mine after ≡ mine before)

  -- The view has pushed this item: the item is at this index, which is the view's own, after all items that were pushed
  -- earlier.
  abbrev pub Pushes : View T → View T → ℕ → T → Type 0
  Pushes before after index item = Appends before.seen after.seen index (entry before.writer item) × (mine after ≡ mine before ++ index ∷ [])

  -- The view has pushed this item directly after its observed prefix.
  abbrev pub PushesNext : View T → View T → T → Type 0
  PushesNext before after item = (after.seen ≡ before.seen ++ entry before.writer item ∷ []) × (mine after ≡ mine before ++ length before.seen ∷ [])

  -- The same view later: it has pushed these items, and they are at consecutive indices from this one on, after all
  -- items that were pushed earlier.
  pub record PushedAll (before after : View T) (index : ℕ) (items : List T) : Type 0 where
    pub same : IsSamePass before after
    pub stand : AppendsAll before.seen after.seen index (written_by before.writer items)
    pub indices : mine after ≡ mine before ++ run index (length items)

  -- A lock guard and a view are of one vector and have observed the same.
  abbrev pub SeesAlike : View T → View T → Type 0
  SeesAlike hold pass = (hold.vector ≡ pass.vector) × (hold.seen ≡ pass.seen)

  -- The longer of two lists; the first if they have the same length.
  abbrev pub longer : List (Entry T) → List (Entry T) → List (Entry T)
  longer xs ys = if nat_le (length ys) (length xs) then xs else ys

-- the lists have no number in common
abbrev pub Apart : List ℕ → List ℕ → Type 0
Apart xs ys = (n : ℕ) → Contains xs n → Contains ys n → ⊥

-- Two views of a vector have merged: each is the same view later; both have observed the longer of the two prefixes;
-- each keeps its own indices, and none belongs to both.
abbrev pub Meet : {T : Type 0} → View T → View T → View T → View T → Type 0
Meet one one_after two two_after =
    (IsLaterPass one one_after × IsLaterPass two two_after) × ((one_after.seen ≡ longer one.seen two.seen) × (two_after.seen ≡ longer one.seen two.seen))
    × ((mine one_after ≡ mine one) × (mine two_after ≡ mine two)) × Apart (mine one_after) (mine two_after)
    × (IsPrefix two.seen one_after.seen × IsPrefix one.seen two_after.seen)

-- At this length a new buffer begins, or the list is full: a push may allocate.
abbrev pub BeginsABuffer : ℕ → Type 0
BeginsABuffer index = (buffer : ℕ) × (buffer ≤ 31) × (index ≡ slots_before buffer)

-- At one of `n` indices from `index` on, a new buffer begins, or the list is full.
abbrev pub BeginsAmong : ℕ → ℕ → Type 0
BeginsAmong index n = (at : ℕ) × BeginsABuffer at × (index ≤ at) × (at < index + n)
