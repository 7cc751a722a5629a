use Rattle.std.proofs.Common.{rules, ◌*◌, ◌%◌, ◌≡◌}
use Rattle.elsa_lock_free.proofs.ClientLemmas.{each_obeys, left_is_there, right_is_there}
use Rattle.test_callers.proofs.events.reports.Goals as goal

pub returns-clause-left : goal.returns-clause-left
returns-clause-left g c = left_is_there c.in_ok-one.one c.meet.new.self c.in_ok-two.two c.meet.new.other c.into_vec_as.new.pass c.in_ok-items.items.items (2 * c.args.left) c.meet.ensures c.into_vec_as.ensures.continues (search rules) (search rules)

pub returns-clause-right : goal.returns-clause-right
returns-clause-right g c = right_is_there c.in_ok-one.one c.meet.new.self c.in_ok-two.two c.meet.new.other c.into_vec_as.new.pass c.in_ok-items.items.items (2 * c.args.right) c.meet.ensures c.into_vec_as.ensures.continues (search rules) (search rules)

pub returns-clause-even : goal.returns-clause-even
returns-clause-even g c = each_obeys (λ x. x % 2 ≡ 0) _ c.into_vec_as.new.pass.seen c.in_ok-items.items.items (λ fs e new. new) (search rules) (search rules)
