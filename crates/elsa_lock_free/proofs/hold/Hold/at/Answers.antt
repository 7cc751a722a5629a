use Rattle.std.proofs.Common.{length, ap, sym, ◌∙◌}
use Rattle.elsa_lock_free.proofs.RuleLemmas.HoldEnd.{acquired_list}
use Rattle.elsa_lock_free.proofs.hold.Hold.at.Goals as goal

pub returns-clause-index : goal.returns-clause-index
returns-clause-index g c =
    let h = c.self.inside in let inv = c.self.invariant in
    inv.2 ∙ (sym (ap length (acquired_list h.right.answer h.seen.log inv.1)) ∙ ap (λ w. length w.seen) c.self.view_is)
