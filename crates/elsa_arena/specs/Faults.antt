-- Why a call on a collection failed: with the value that it was passed, or without.
use Rattle.std.specs.Prelude.{ℕ, ◌≡◌, ◌<◌, ◌⊎◌}
use Rattle.std.specs.declared.io.ErrorKind.{ErrorKind}
use Rattle.std.specs.declared.io.ErrorKind.TheVariants as kinds
use Rattle.elsa_arena.specs.declared.fault.CellFault.{CellFault}
use Rattle.elsa_arena.specs.declared.fault.CellFault.TheVariants.{Memory, InUse, Full}
use Rattle.elsa_arena.specs.declared.fault.Fault.{Fault}
use Rattle.elsa_arena.specs.declared.fault.Fault.TheVariants as to

module _ {T : Type 0} where
  -- The fault without its value.
  abbrev pub fault_of : CellFault T → Fault
  fault_of (Memory x) = to.Memory
  fault_of (InUse x) = to.InUse
  fault_of (Full x) = to.Full

  -- The fault has the value `x`, whatever its cause.
  abbrev pub GivesBack : T → CellFault T → Type 0
  GivesBack x f = (f ≡ Memory x) ⊎ (f ≡ InUse x) ⊎ (f ≡ Full x)

  -- Why a lock guard of a collection with `count` items, which can have `most`, doesn't insert `x`:
  -- the collection is full, or else an allocation failed.
  abbrev pub Refuses : ℕ → ℕ → T → CellFault T → Type 0
  Refuses most count x f = ((f ≡ Memory x) × (count < most)) ⊎ ((f ≡ Full x) × (count ≡ most))

-- The kind of an `io::Error` that is made of a fault.
abbrev pub kind_of : Fault → ErrorKind
kind_of to.Memory = kinds.OutOfMemory
kind_of to.InUse = kinds.ResourceBusy
kind_of to.Full = kinds.StorageFull
