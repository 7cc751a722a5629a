use Rattle.std.proofs.Common.{length, ap, arith, length-append}
use Rattle.elsa_lock_free.specs.History.{list_of}
use Rattle.elsa_lock_free.proofs.RuleLemmas.EachNew.{prefix_is_new}
use Rattle.elsa_lock_free.proofs.RuleLemmas.History.{list_prefix}
use Rattle.elsa_lock_free.proofs.RuleLemmas.Made.{prefix_is_made}
use Rattle.elsa_lock_free.proofs.atomic_list.obeys_rule.Goals as goal

pub returns-clause-obeys_rule : goal.returns-clause-obeys_rule
returns-clause-obeys_rule g c =
    let v = c.args.seen.now.log in let log = c.learn.new.self.log in let more = list_prefix v log c.learn.ensures.3 in
    prefix_is_new g.K.ItemRule.is_new (list_of v) (list_of log) more c.learn.ensures.4.1.each_is_new

pub returns-clause-limit : goal.returns-clause-limit
returns-clause-limit g c =
    let v = c.args.seen.now.log in let log = c.learn.new.self.log in let more = list_prefix v log c.learn.ensures.3 in
    let small = c.learn.ensures.4.1.small in let l = ap length more.1 in let a = length-append (list_of v) more.0 in omega (arith, small, l, a)

pub returns-clause-made : goal.returns-clause-made
returns-clause-made g c = prefix_is_made c.args.seen.now.log c.learn.new.self.log c.learn.ensures.3 c.learn.ensures.4.1.made
