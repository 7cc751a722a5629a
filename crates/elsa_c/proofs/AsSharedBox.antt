-- The seal of shared names and its parts own what a box at the same types owns.
use mir.Syntax.{impl, tnil, dnil}
use mathlib.Core.List.{[]}
use denote.Signature.{Slot, plain}
use Rattle.std_alloc.proofs.BoxSteps.Form.{Bx}
use Rattle.std.specs.contracts.alloc.Global as Heap
use Rattle.std.specs.contracts.impls.GlobalAllocator.TheImpl.{ghosts, dict}
use Rattle.std.proofs.alloc.Global.TheLaws as heap
use Rattle.elsa_c.specs.contracts.shared_kept.SharedKept as Kept
use Rattle.elsa_c.proofs.shared_kept.SharedKept.TheLaws as kept
use Rattle.elsa_c.specs.contracts.handle.Parts as Parts
use Rattle.elsa_c.specs.contracts.shared_handle.SharedHandle as Handle

abbrev pub E : Bx
E = record { row = Kept.the_row; laws = kept.the_row_laws; al = record { row = Heap.the_row; laws = heap.the_row_laws; g = ghosts; d = dict; drops = impl [] tnil dnil } }

abbrev pub FromParts : Slot 0
FromParts = plain (λ _. Parts.the_row Kept.the_row Heap.the_row ghosts)

abbrev pub FromSeal : Slot 0
FromSeal = plain (λ _. Handle.the_row)
