use Rattle.std.proofs.Common.{◌∙◌, ap, length}
use Rattle.std.proofs.lemmas.List.{nil_from_length}
use Rattle.std.proofs.lemmas.List.Sorted.{length_permutation}
use Rattle.elsa_maps.proofs.map.hashed.FrozenMapIn+R+K+V+BuildHasherDefault+FoldHasher+A.with_capacity.Goals as goal

-- making room left the entries of the empty map
pub returns-clause-empty : goal.returns-clause-empty
returns-clause-empty g c = nil_from_length _ (length_permutation _ _ c.in_ok-reserve.ensures.entries ∙ ap length c.new-map.ensures)
