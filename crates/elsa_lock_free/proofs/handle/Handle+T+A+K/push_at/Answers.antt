use Rattle.std.proofs.Common.{◌≡◌, ◌^◌, ap, length, refl, arith}
use Rattle.elsa_slots.proofs.GeometryLemmas.Powers.{before_power}
use Rattle.elsa_lock_free.proofs.handle.Handle+T+A+K.push_at.Goals as goal

pub returns-then-n-eq-LIMIT-clause-refused : goal.returns-then-n-eq-LIMIT-clause-refused
returns-then-n-eq-LIMIT-clause-refused g c =
    let low = c.requires.index in let no = c.if-n-seen_len.false in let s = c.seen_len.ensures.length in let d = ap (λ w. length w.seen) c.deref.ensures in let t = before_power 31 in let h = c.if-n-eq-LIMIT.true in let z : 4 ^ 31 ≡ 2 ^ 62 = refl in
    (refl, omega (arith, low, no, s, d), (31, omega arith, omega (arith, h, z, t)))
