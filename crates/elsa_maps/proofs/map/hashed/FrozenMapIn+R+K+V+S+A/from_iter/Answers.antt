use Rattle.std.proofs.Common.{ap, rules, ◌∙◌}
use Rattle.std.specs.Option.{option_map}
use Rattle.elsa_maps.proofs.Contents.{holds_none, holds_more}
use Rattle.elsa_maps.proofs.map.hashed.FrozenMapIn+R+K+V+S+A.from_iter.Goals as goal

-- room that is made leaves the table empty
pub loop-pair-init : goal.loop-pair-init
loop-pair-init g c q =
    let shown = g.V.HasTarget.shown in
    ap (option_map shown) (c.reserve-room.ensures.entries.2 q)
    ∙ holds_none g.K.PartialEq.eq g.met.K.Eq.laws g.V.HasTarget.target shown _ c.with_hasher-table.ensures.empty q

pub loop-pair-preserved : goal.loop-pair-preserved
loop-pair-preserved g c =
    holds_more g.K.PartialEq.eq g.met.K.Eq.laws g.V.HasTarget.target g.V.HasTarget.shown c.loop-pair.yielded c.loop-pair.table.entries c.insert.new.self.entries c.in-Some.pair.0 c.in-Some.pair.1 _ c.loop-pair.invariant c.in-Ok.ensures.placed c.in_ok-insert.ensures.updates.0

pub returns : goal.returns
returns g c =
    let begun = c.into_iter-pair-iterator.ensures.into_iter_gives in
    record { collects = (c.into_iter-pairs.result, c.loop-pair.yielded, search rules, (c.next.new.self, (c.loop-pair.pair-iterator, search (rules, begun, c.loop-pair.yielded_by), search rules)), (λ q. search (rules, c.loop-pair.invariant q))) }
