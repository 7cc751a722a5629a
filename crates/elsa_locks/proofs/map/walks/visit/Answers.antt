use Rattle.std.proofs.Common.{refl}
use denote.Param.Always.{mut_next}
use Rattle.std.proofs.lemmas.Fn.{FoldsTo-push}
use Rattle.std.proofs.lemmas.List.{map-append}
use Rattle.elsa_locks.proofs.map.walks.visit.Goals as goal

pub loop-key-preserved : goal.loop-key-preserved
loop-key-preserved g c = (
  mut_next g.F.FnMut _ _ _ _ _ c.f.ensures refl c.loop-key.invariant.0,
  rw map-append (FoldsTo-push _ _ _ _ _ _ c.loop-key.invariant.1 record { key = c.in-Some.key; value = c.deref.result; shows = (refl, c.deref.ensures); called = c.f.ensures }),
)
