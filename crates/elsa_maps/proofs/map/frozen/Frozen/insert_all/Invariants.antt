use Rattle.std.proofs.Common.{◌≡◌, List, [], ◌∷◌, ◌++◌}
use Rattle.elsa_maps.specs.FirstWins.{AppendsFirsts, HoldsFirst}
use Rattle.elsa_maps.proofs.map.frozen.Frozen.insert_all.Given as goal

abbrev pub invariant-loop-pair : goal.invariant-loop-pair
invariant-loop-pair g l = record {
  firsts : HoldsFirst g.T.Table.same g.V.HasTarget.target g.V.HasTarget.shown l.fn.self l.yielded l.self;
  appended : ((es : List (_ × _)) (k : _) (b : _) (fs : List (_ × _)) → g.T.Table.extends es k b fs → fs ≡ es ++ (k, b) ∷ []) → AppendsFirsts g.T.Table.same g.V.HasTarget.target g.V.HasTarget.shown l.fn.self l.yielded l.self;
}
