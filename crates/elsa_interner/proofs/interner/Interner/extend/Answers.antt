use Rattle.elsa_interner.proofs.ManyNames.{puts_more, puts_none}
use Rattle.elsa_interner.proofs.interner.Interner.extend.Goals as goal

-- room that is made changes no name
pub loop-text-init : goal.loop-text-init
loop-text-init g c = puts_none _ _ c.reserve-room.ensures

pub loop-text-preserved : goal.loop-text-preserved
loop-text-preserved g c = puts_more _ c.loop-text.self c.put.new.self c.loop-text.yielded c.in-Some.text _ c.loop-text.invariant c.in_ok-put.ensures.numbered
