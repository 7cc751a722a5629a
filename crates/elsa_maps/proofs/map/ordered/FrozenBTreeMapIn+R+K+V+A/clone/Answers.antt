use Rattle.std.proofs.Common.{length, ap, ◌∙◌}
use Rattle.elsa_maps.proofs.map.ordered.FrozenBTreeMapIn+R+K+V+A.clone.Goals as goal

pub returns-clause-count : goal.returns-clause-count
returns-clause-count g c = rw (← c.self.view_is) (ap length c.from_map.ensures ∙ c.in_ok-copy.ensures.count)
