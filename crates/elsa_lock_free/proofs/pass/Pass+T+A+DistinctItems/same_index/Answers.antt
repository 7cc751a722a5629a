use Rattle.std.proofs.Common.{List, ap, subst}
use mathlib.Core.List.{IsPrefix}
use Rattle.elsa_lock_free.specs.declared.event.Event.{Event}
use Rattle.elsa_lock_free.specs.Distinct.{IsAbsent}
use Rattle.elsa_lock_free.specs.SharedList.{items_of}
use Rattle.elsa_lock_free.specs.History.{list_of}
use Rattle.elsa_lock_free.proofs.RuleLemmas.EachNew.{agree_on_indices, items_are_new}
use Rattle.elsa_lock_free.proofs.RuleLemmas.History.{items_prefix, list_prefix}
use Rattle.elsa_lock_free.proofs.pass.Pass+T+A+DistinctItems.same_index.Goals as goal

pub returns : goal.returns
returns g c =
    let v = c.self.inside.seen.log in let w = c.other.inside.seen.log in let all = c.learn.new.self.log in
    let mine : IsPrefix v all = subst (λ (l : List (Event g.row.T.Denot)). IsPrefix l all) (ap (λ z. z.log) c.again-both.ensures) c.learn.ensures.2 in
    let one = items_prefix (list_of v) (list_of all) (list_prefix v all mine) in
    let other = items_prefix (list_of w) (list_of all) (list_prefix w all c.learn.ensures.3) in
    rw (← c.self.view_is, ← c.other.view_is) (agree_on_indices g.T.PartialEq.eq g.met.T.Eq.laws.symm (items_of (list_of v)) (items_of (list_of w)) (items_of (list_of all)) one other (items_are_new (IsAbsent g.T.PartialEq.eq) (list_of all) c.obeys_rule.ensures.obeys_rule))
