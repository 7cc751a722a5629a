-- How the buffers that are ready change: the first is opened, or another is added.
use Rattle.std.proofs.Common.{◌≡◌, ℕ, suc, ◌+◌, ◌-◌, ◌<◌, ◌≤◌, ◌^◌, refl, Option, Some, None, List, [], ◌∷◌, ◌++◌, length, drop, ap, ◌∙◌, arith}
use Rattle.std.proofs.lemmas.List.{length-drop}
use Rattle.elsa_slots.specs.Geometry.{size_of, slots_before}
use Rattle.elsa_slots.proofs.GeometryLemmas.Powers.{before_power}
use native.Mathlib.Decide.{dec_lt}
use Rattle.elsa_slots.specs.Ahead.{GoesOn}
use Rattle.elsa_slots.specs.declared.slots.rights.Written.{Written}
use Rattle.elsa_slots.proofs.ListLemmas.Copies.{begins_rise, ends_before}
use Rattle.elsa_arena.specs.declared.state.Fresh.{Fresh}
use Rattle.elsa_arena.specs.Ready.{AreNext}

-- The rights to open the buffers from `b` on.
pub left_from : (buffers further : List ℕ) (b : ℕ) → length buffers ≡ 31 → b ≤ 31 → further ≡ drop b buffers → 31 - length further ≡ b
left_from buffers further b all low is = let l = ap length is in let d = length-drop b buffers in omega (arith, l, d, all, low)

-- The first n items are in buffers that are open: those before the first that isn't.
pub within_open : {X : Type 0} (buffers : List ℕ) (n : ℕ) (opened : Option (Written (List ℕ × X))) (slots further : List ℕ) → GoesOn buffers n opened slots further → length buffers ≡ 31 → n < 2 ^ 62 → n ≤ slots_before (31 - length further)
within_open buffers n None slots further k all limit =
    let b = k.buffer in let l = ap length k.rights in let d = length-drop b buffers in let e = before_power b in let begins = k.begins in
    let last = before_power 31 in let big : 4 ^ 31 ≡ 2 ^ 62 = refl in elim (dec_lt 31 b) [
      | yes above ↦ (let is : 31 - length further ≡ 31 = omega (arith, l, d, all, above) in let same = ap slots_before is in omega (arith, same, last, big, limit))
      | no low ↦ (let is = left_from buffers further b all (omega (arith, low)) k.rights in let same = ap slots_before is in omega (arith, same, e, begins))
    ]
within_open buffers n (Some o) slots further k all limit =
    let b = suc k.buffer in let l = ap length k.at.rights in let d = length-drop b buffers in let e = ends_before n k.buffer k.slot k.at.index in
    let last = before_power 31 in let big : 4 ^ 31 ≡ 2 ^ 62 = refl in elim (dec_lt 31 b) [
      | yes above ↦ (let is : 31 - length further ≡ 31 = omega (arith, l, d, all, above) in let same = ap slots_before is in omega (arith, same, last, big, limit))
      | no low ↦ (let is = left_from buffers further b all (omega (arith, low)) k.at.rights in let same = ap slots_before is in omega (arith, same, e))
    ]

-- All buffers together have fewer slots than a number of 62 bits.
pub slots_low : (b : ℕ) → b ≤ 31 → slots_before b < 2 ^ 62
slots_low b low = let rise = begins_rise b 31 low in let last = before_power 31 in let big : 4 ^ 31 ≡ 2 ^ 62 = refl in omega (arith, rise, last, big)

module _ {T A : Type 0} where
  -- Without the first buffer, the others begin at the next one.
  pub next_rest : (b : ℕ) (fs : List (Fresh T A)) → AreNext b fs → AreNext (suc b) (drop 1 fs)
  next_rest b [] all = tt
  next_rest b (f ∷ fs) all = all.2

  -- Another buffer is added at the end.
  pub next_more : (b c : ℕ) (fs : List (Fresh T A)) (f : Fresh T A) → AreNext b fs → c ≡ b + length fs → length f.buffer.0 ≡ size_of c → f.slots.of ≡ f.buffer.0 → AreNext b (fs ++ f ∷ [])
  next_more b c [] f all is whole its = (whole ∙ ap size_of (let z : c ≡ b = omega (arith, is) in z), its, tt)
  next_more b c (x ∷ fs) f all is whole its = (all.0, all.1, next_more (suc b) c fs f all.2 (omega (arith, is)) whole its)
