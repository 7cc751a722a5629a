use Rattle.std.proofs.Common.{◌≡◌, map, None}
use Rattle.std.specs.List.{IsDistinct}
use Rattle.std.specs.Map.{keys_of, update_all}
use Rattle.std.specs.Map.Iter.{deref_pair}
use Rattle.elsa_maps.specs.FirstWins.{value_at}
use Rattle.elsa_maps.proofs.map.hashed.FrozenMapIn+R+K+V+S+A.clone.Given as goal

abbrev pub invariant-loop-key : goal.invariant-loop-key
invariant-loop-key g l = record {
  content : (q : _) → value_at g.K.PartialEq.eq l.copy.entries q ≡ update_all g.K.PartialEq.eq (λ _. None) (map deref_pair l.yielded) q;
  distinct : IsDistinct g.K.PartialEq.eq (keys_of l.copy.entries);
}
