use Rattle.std.specs.Cmp.{eq_by_cmp_equiv}
use Rattle.std.specs.Ordering.{eq_by_cmp}
use Rattle.elsa_maps.proofs.Contents.{holds_none, holds_more}
use Rattle.elsa_maps.proofs.map.ordered.FrozenBTreeMapIn+R+K+V+A.from_iter.Goals as goal

pub loop-pair-init : goal.loop-pair-init
loop-pair-init g c = holds_none (eq_by_cmp g.K.Ord.cmp) (eq_by_cmp_equiv g.met.K.Ord.total) g.V.HasTarget.target g.V.HasTarget.shown _ c.new-tree.ensures.empty

pub loop-pair-preserved : goal.loop-pair-preserved
loop-pair-preserved g c =
    holds_more (eq_by_cmp g.K.Ord.cmp) (eq_by_cmp_equiv g.met.K.Ord.total) g.V.HasTarget.target g.V.HasTarget.shown c.loop-pair.yielded c.loop-pair.tree.entries c.insert.new.self.entries c.in-Some.pair.0 c.in-Some.pair.1 _ c.loop-pair.invariant c.in-Ok.ensures.placed c.in_ok-insert.ensures.updates.0
