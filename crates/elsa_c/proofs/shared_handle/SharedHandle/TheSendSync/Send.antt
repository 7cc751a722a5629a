-- A handle may move to another thread: it owns what a box of the names owns, or nothing.
use mir.Raw.{raw}
use base.Shift.{Keyless}
use denote.Memory.{lone}
use denote.RawPtr.{Ptr}
use denote.Struct.Struct.{exits_of}
use denote.Struct.Owning.{shape, fields, to}
use denote.Param.Send.{IsSend, AllSend, owning_send, struct_send, sendable}
use Rattle.std.specs.Prelude.{Option, None, Some}
use Rattle.std.proofs.Crossing as heap
use Rattle.std_alloc.proofs.SendSync.{quiet, lies}
use Rattle.std.proofs.alloc.Global.TheSendSync as handle
use Rattle.std.specs.declared.alloc.Global.{Global}
use Rattle.elsa_c.specs.SharedKept.{box_where}
use Rattle.elsa_c.specs.contracts.shared_kept.SharedKept as Kept
use Rattle.elsa_c.proofs.shared_kept.SharedKept.TheSendSync.{the_send as kept}
use Rattle.elsa_c.specs.contracts.shared_handle.SharedHandle.{the_row, the_type}

by_value : (a : Global) (p : Ptr) (o : Option Kept.the_row.Denot) → Keyless (box_where a p o)
by_value a p None = tt
by_value a p (Some x) = (lies Kept.the_row kept p x, heap.frees.frees a (raw (lone Kept.the_row.mir)) p)

pub send : IsSend the_row
send =
    let all : AllSend (fields the_type) = (search sendable, (handle.the_field_send, tt)) in
    owning_send the_type all (λ d. by_value d.alloc d.ptr d.value)
    (λ k. quiet (to the_type) (exits_of k (fields the_type)) ((struct_send (shape the_type) all).leaving k))
