-- Where the next index of a list can be.
use Rattle.std.proofs.Common.{◌≡◌, ℕ, suc, ◌+◌, ◌^◌, ◌<◌, ◌≤◌, refl, subst, arith}
use native.Mathlib.Decide.{dec_lt}
use Rattle.elsa_slots.specs.Geometry.{IsAt, size_of, slots_before}
use Rattle.elsa_slots.proofs.GeometryLemmas.Powers.{before_power, four_mono, four_pos, four_suc}
use Rattle.elsa_slots.proofs.ListLemmas.Copies.{ends_before}
use Rattle.elsa_arena.proofs.ReadyLemmas.{slots_low}

-- An index in one of the 31 buffers, and the index after it, are below 2 ^ 62.
pub index_low : (n b j : ℕ) → IsAt n b j → b < 31 → n + 1 < 2 ^ 62
index_low n b j at low = let e = ends_before n b j at in let s = slots_low (suc b) (omega (arith, low)) in omega (arith, e, s)

-- An index below 2 ^ 62 that isn't the first one of its buffer is in one of the 31 buffers.
pub later_low : (n b j : ℕ) → IsAt n b j → n < 2 ^ 62 → 0 < j → b < 31
later_low n b j at limit later = elim (dec_lt b 31) [
  | yes less ↦ less
  | no more ↦ (let m = four_mono 31 b (omega (arith, more)) in let f = at.begins in let k : 4 ^ 31 ≡ 2 ^ 62 = refl in absurd (omega (arith, limit, later, m, f, k)))
]

-- An index below 2 ^ 62 begins one of the 31 buffers, or is after all of them.
pub begins_low : (n b j : ℕ) → IsAt n b j → n < 2 ^ 62 → b ≤ 31
begins_low n b j at limit = elim (dec_lt 31 b) [
  | yes above ↦ (let m = four_mono 32 b above in let f = at.begins in let k : 4 ^ 32 ≡ 2 ^ 64 = refl in let two : 2 ^ 62 ≤ 2 ^ 63 = omega arith in absurd (omega (arith, limit, m, f, k, two)))
  | no low ↦ omega (arith, low)
]

-- An index before the last one is in one of the 31 buffers.
pub before_last : (n b j : ℕ) → IsAt n b j → n + 1 < 2 ^ 62 → b < 31
before_last n b j at limit = elim (dec_lt b 31) [
  | yes less ↦ less
  | no more ↦ (let m = four_mono 31 b (omega (arith, more)) in let f = at.begins in let k : 4 ^ 31 ≡ 2 ^ 62 = refl in absurd (omega (arith, limit, m, f, k)))
]

-- The first slot of a buffer.
pub begins_at : (n b : ℕ) → n ≡ slots_before b → IsAt n b 0
begins_at n b is = let e = before_power b in let p = four_pos b in record { begins = omega (arith, is, e); within = omega (arith, p) }

-- The next index is in the next slot of a buffer.
pub next_slot : (n b j : ℕ) → IsAt n b j → j + 1 < size_of b → IsAt (n + 1) b (j + 1)
next_slot n b j at room = let f = at.begins in record { begins = omega (arith, f); within = room }

-- After the last slot of a buffer, the next index is in the first slot of the next buffer.
pub next_buffer : (n b j : ℕ) → IsAt n b j → j + 1 ≡ size_of b → IsAt (n + 1) (b + 1) 0
next_buffer n b j at full =
    let f = at.begins in let four = four_suc b in let p = four_pos b in
    let here : IsAt (n + 1) (suc b) 0 = record { begins = omega (arith, f, full, four); within = omega (arith, four, p) } in
    subst (λ c. IsAt (n + 1) c 0) (let z : suc b ≡ b + 1 = omega arith in z) here
