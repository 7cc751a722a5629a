use Rattle.std.proofs.Common.{◌≡◌, length, ap, sym, ◌∙◌, arith}
use Rattle.elsa_lock_free.specs.History.{list_of}
use Rattle.elsa_lock_free.proofs.RuleLemmas.HoldEnd.{acquired_list}
use Rattle.elsa_lock_free.proofs.hold.Hold.release.Goals as goal

pub released-requires-clause-length : goal.released-requires-clause-length
released-requires-clause-length g c =
    let h = c.self.inside in let v = h.seen.log in let r = h.right in let inv = c.self.invariant in
    let n : h.at ≡ length (list_of v) = inv.2 ∙ sym (ap length (acquired_list r.answer v inv.1)) in
    (n ∙ sym (ap length c.release-seen.ensures.seen), (let h = inv.3 in omega (arith, h)))
