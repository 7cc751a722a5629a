use Rattle.elsa_index.proofs.Collecting.{set_extends_grows, set_extends_none, set_extends_push}
use Rattle.elsa_index.proofs.index_set.FrozenIndexSetIn.extend.Goals as goal

-- room that is made changes no value
pub loop-value-init : goal.loop-value-init
loop-value-init g c = set_extends_none g.T.Borrow.PartialEq.eq g.met.T.Borrow.Eq.laws g.T.HasTarget.target g.T.HasTarget.shown g.T.LookUp.finds g.met.T.LookUp.finds_target _ _ c.reserve-room.ensures.content

pub loop-value-preserved : goal.loop-value-preserved
loop-value-preserved g c = set_extends_push g.T.Borrow.PartialEq.eq g.met.T.Borrow.Eq.laws g.T.HasTarget.target g.T.HasTarget.shown g.T.LookUp.finds g.met.T.LookUp.finds_target _ c.loop-value.self c.insert_full.new.self c.loop-value.yielded c.in-Some.value _ _ c.loop-value.invariant c.in_ok-insert_full.ensures.accepted
