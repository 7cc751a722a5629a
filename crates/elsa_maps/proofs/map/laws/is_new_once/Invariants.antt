use Rattle.std.proofs.Common.{◌≡◌, All, IsSome, Some}
use Rattle.elsa_maps.specs.FirstWins.{Keeps, value_at}
use Rattle.elsa_maps.proofs.map.laws.is_new_once.Given as goal

abbrev pub invariant-loop-pair : goal.invariant-loop-pair
invariant-loop-pair g l = record {
  first : value_at g.M.MapForm.same (g.M.MapForm.entries l.map) l.fn.first.0 ≡ Some l.before.0;
  between : All (λ pair. IsSome (value_at g.M.MapForm.same (g.M.MapForm.entries l.map) pair.0)) l.yielded;
  kept : Keeps (value_at g.M.MapForm.same (g.M.MapForm.entries l.fn.map)) (value_at g.M.MapForm.same (g.M.MapForm.entries l.map));
}
