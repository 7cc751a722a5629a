use Rattle.std.proofs.Common.{rules}
use Rattle.std.specs.Ordering.{eq_by_cmp}
use Rattle.elsa_maps.proofs.Extending.{holds_first_keeps}
use Rattle.elsa_maps.proofs.map.ordered.FrozenBTreeMapIn+R+K+V+A.extend.Goals as goal

pub returns : goal.returns
returns g c =
    let done = c.insert_all.ensures.extended in
    record { extended = (c.into_iter.result, done.0, search rules, done.1, done.3); kept = holds_first_keeps (eq_by_cmp g.K.Ord.cmp) g.V.HasTarget.target g.V.HasTarget.shown _ _ done.0 done.1 }
