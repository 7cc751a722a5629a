use Rattle.std.proofs.Common.{take}
use Rattle.elsa_tables.specs.Insertions.{IsCloneOf}
use Rattle.elsa_maps.proofs.index_map.FrozenIndexMapIn+R+K+V+S+A.clone.Given as goal

abbrev pub invariant-loop-i : goal.invariant-loop-i
invariant-loop-i g l = IsCloneOf g.K.PartialEq.eq g.K.Clone.is_clone (take l.i l.self) l.map.entries
