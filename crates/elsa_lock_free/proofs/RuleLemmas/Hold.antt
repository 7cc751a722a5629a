-- The slot of the length while a thread has the lock: it begins a buffer, or is in an open one.
use Rattle.std.proofs.Common.{◌≡◌, ℕ, zero, suc, ◌+◌, ◌-◌, ◌^◌, ◌<◌, ◌==◌, true, false, refl, sym, subst, arith}
use Rattle.std.specs.Prelude.{MatchBool}
use Rattle.std.proofs.lemmas.Bool.Decides.{nat_tests}
use Rattle.elsa_slots.specs.Geometry.{IsAt}
use Rattle.elsa_slots.proofs.GeometryLemmas.OneToOne.{one_slot}
use Rattle.elsa_slots.proofs.GeometryLemmas.Powers.{before_power, four_pos}
use Rattle.elsa_lock_free.specs.SharedList.{BeginsABuffer}

-- the first slot of a buffer
starts : (n b : ℕ) → n + 1 ≡ 4 ^ b → IsAt n b 0
starts n b e = let p = four_pos b in record { begins = omega (arith, e, p); within = omega (arith, e, p) }

-- where a buffer begins, its first slot is
pub begins_closed : (n b j : ℕ) → IsAt n b j → BeginsABuffer n → (j ≡ 0) × (n + 1 ≡ 4 ^ b)
begins_closed n b j at begins =
    let e = before_power begins.0 in let k = begins.2 in
    let power : n + 1 ≡ 4 ^ begins.0 = omega (arith, e, k) in
    let same = one_slot n b j begins.0 0 at (starts n begins.0 power) in
    let here : j ≡ 0 = same.1 in let f = at.begins in
    (here, subst (λ c. n + 1 ≡ 4 ^ c) (sym same.0) power)

-- and where its first slot is, it begins
pub first_begins : (n b j : ℕ) → IsAt n b j → b < 31 → j ≡ 0 → BeginsABuffer n
first_begins n b j at low first = let e = before_power b in let f = at.begins in (b, omega (arith, low), omega (arith, e, f, first))

-- a comparison of the slot with 0 decides which
pub begins_test : (n b j : ℕ) → IsAt n b j → b < 31 → MatchBool (j == 0) (BeginsABuffer n) (BeginsABuffer n → ⊥)
begins_test n b zero at low = let yes : (zero == 0) ≡ true = grind (arith, nat_tests) in subst (λ t. MatchBool t (BeginsABuffer n) (BeginsABuffer n → ⊥)) (sym yes) (first_begins n b 0 at low refl)
begins_test n b (suc j) at low = let no : (suc j == 0) ≡ false = grind (arith, nat_tests) in subst (λ t. MatchBool t (BeginsABuffer n) (BeginsABuffer n → ⊥)) (sym no) (λ begins. let z = (begins_closed n b (suc j) at begins).0 in absurd (omega (arith, z)))

-- elsewhere the slot is a later one
pub later_slot : (n b j : ℕ) → IsAt n b j → b < 31 → (BeginsABuffer n → ⊥) → 0 < j
later_slot n b zero at low inside = absurd (inside (first_begins n b 0 at low refl))
later_slot n b (suc j) at low inside = omega arith

-- and the index before is in the slot before
pub before_slot : (n b j : ℕ) → IsAt n b j → 0 < j → IsAt (n - 1) b (j - 1)
before_slot n b j at pos = let p = four_pos b in record { begins = let h = at.begins in omega (arith, h, pos, p); within = let w = at.within in omega (arith, w, pos) }
