use Rattle.std.proofs.Common.{List, ap, subst}
use mathlib.Core.List.{IsPrefix}
use Rattle.elsa_lock_free.specs.declared.event.Event.{Event}
use Rattle.elsa_lock_free.proofs.RuleLemmas.Made.{one_begins}
use Rattle.elsa_lock_free.proofs.history.VectorHistory.is_one_with.Goals as goal

pub returns : goal.returns
returns g c =
    let v = c.self.inside.seen.log in let w = c.other.inside.seen.log in let all = c.learn.new.self.log in
    let mine : IsPrefix v all = subst (λ (l : List (Event g.row.T.Denot)). IsPrefix l all) (ap (λ z. z.log) c.again-both.ensures) c.learn.ensures.2 in
    rw (← c.self.view_is, ← c.other.view_is) (record { one = one_begins v w all mine c.learn.ensures.3 })
