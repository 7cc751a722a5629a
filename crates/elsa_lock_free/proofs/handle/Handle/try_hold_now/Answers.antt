use Rattle.std.proofs.Common.{◌≡◌, ◌^◌, ap, length, refl, arith}
use Rattle.elsa_slots.proofs.GeometryLemmas.Powers.{before_power}
use Rattle.elsa_lock_free.proofs.handle.Handle.try_hold_now.Goals as goal

pub returns-then-seen_len-eq-LIMIT-clause-full : goal.returns-then-seen_len-eq-LIMIT-clause-full
returns-then-seen_len-eq-LIMIT-clause-full g c =
    let s = c.seen_len.ensures.length in let d = ap (λ w. length w.seen) c.deref.ensures in let t = before_power 31 in let h = c.if-seen_len-eq-LIMIT.true in let z : 4 ^ 31 ≡ 2 ^ 62 = refl in
    (31, omega arith, omega (arith, s, d, h, z, t))
