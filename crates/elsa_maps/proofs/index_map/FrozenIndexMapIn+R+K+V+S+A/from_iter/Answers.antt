use Rattle.std.proofs.Common.{rules, ◌∙◌}
use Rattle.elsa_maps.proofs.Collecting.{collects_none, collects_push}
use Rattle.elsa_maps.proofs.index_map.FrozenIndexMapIn+R+K+V+S+A.from_iter.Goals as goal

-- room that is made leaves the map empty
pub loop-pair-init : goal.loop-pair-init
loop-pair-init g c = collects_none g.K.PartialEq.eq g.met.K.Eq.laws g.V.HasTarget.target g.V.HasTarget.shown _ (c.reserve-room.ensures.content ∙ c.with_hasher-map.ensures)

pub loop-pair-preserved : goal.loop-pair-preserved
loop-pair-preserved g c =
    let h = c.in_ok-set.ensures in
    collects_push g.K.PartialEq.eq g.met.K.Eq.laws g.V.HasTarget.target g.V.HasTarget.shown c.loop-pair.yielded c.loop-pair.map c.set.new.self c.in-Some.pair.0 c.in-Some.pair.1 c.in_ok-set.field-0 c.loop-pair.invariant h.placed h.entries h.values

pub returns : goal.returns
returns g c =
    let begun = c.into_iter-pair-iterator.ensures.into_iter_gives in
    record { collects = (c.into_iter-pairs.result, c.loop-pair.yielded, search rules, (c.next.new.self, (c.loop-pair.pair-iterator, search (rules, begun, c.loop-pair.yielded_by), search rules)), c.loop-pair.invariant) }
