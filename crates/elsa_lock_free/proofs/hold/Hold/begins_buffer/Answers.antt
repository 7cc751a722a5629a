use Rattle.std.proofs.Common.{◌≡◌, ◌==◌, length, ap, sym, ◌∙◌, subst, ℕ}
use Rattle.std.specs.Prelude.{MatchBool}
use Rattle.elsa_lock_free.specs.SharedList.{BeginsABuffer}
use Rattle.elsa_lock_free.proofs.RuleLemmas.Hold.{begins_test}
use Rattle.elsa_lock_free.proofs.RuleLemmas.HoldEnd.{acquired_list}
use Rattle.elsa_lock_free.proofs.hold.Hold.begins_buffer.Goals as goal

pub returns : goal.returns
returns g c =
    let h = c.self.inside in let inv = c.self.invariant in
    let len : h.at ≡ length c.args.self.now.seen = inv.2 ∙ (sym (ap length (acquired_list h.right.answer h.seen.log inv.1)) ∙ ap (λ v. length v.seen) c.self.view_is) in
    subst (λ (n : ℕ). MatchBool (h.slot == 0) (BeginsABuffer n) (BeginsABuffer n → ⊥)) len (begins_test h.at h.buffer h.slot inv.4 inv.5)
