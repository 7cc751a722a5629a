-- The calls of a closure that an iteration over a map makes, and the copies of entries that it
-- returns.
use Rattle.std.specs.Prelude.{◌≡◌, Option, Some, List}
use Rattle.std.specs.Arc.{arc_value}
use Rattle.std.specs.Borrow.{Bor}
use Rattle.std.specs.Fn.{Mut, Called}
use Rattle.std.specs.List.{FoldsTo}
use Rattle.std.specs.declared.sync.Arc.{Arc}

-- A call of f with references to the key and the value of the entry. It leaves the closure as f'.
pub record VisitsEntry {F K V : Type 0} (g : Mut F (Bor K × (Bor V × Unit {0})) (Unit {0})) (f : F) (entry : K × V) (f' : F) : Type 0 where
  pub key : Bor K
  pub value : Bor V
  pub shows : (key.now ≡ entry.0) × (value.now ≡ entry.1)
  pub called : Called g f (key, (value, tt)) tt f'

-- f was called with each of the entries, once for each, in their order.
abbrev pub VisitsAll : {F K V : Type 0} → Mut F (Bor K × (Bor V × Unit {0})) (Unit {0}) → F → List (K × V) → Type 0
VisitsAll {F} g f entries = (last : F) × FoldsTo (VisitsEntry g) f entries last

-- There is an entry, and the copy is a clone of its key and an `Arc` of its value.
abbrev pub IsCopyOf : {K V Z : Type 0} → (K → K → Type 0) → Option (K × V) → K × Arc V Z → Type 0
IsCopyOf {K} is_clone entry copy = (key : K) × (entry ≡ Some (key, arc_value copy.1)) × is_clone key copy.0
