-- What a handle of shared names owns.
use Rattle.std.specs.Prelude.{Option, Some, None}
use base.Fml.{Fml, ftrue}
use denote.RawPtr.{Ptr}
use Rattle.std.specs.declared.alloc.Global.{Global}
use Rattle.std.specs.contracts.impls.GlobalAllocator.TheImpl.{ghosts}
use Rattle.std_alloc.specs.Box.Ownership.{box_owns}
use Rattle.elsa_c.specs.contracts.shared_kept.SharedKept.{the_row}

-- The memory of the box at the pointer, if there is one.
abbrev pub box_where : Global → Ptr → Option the_row.Denot → Fml
box_where alloc p None = ftrue
box_where alloc p (Some x) = box_owns (ghosts.dealloc_token alloc) the_row p x
