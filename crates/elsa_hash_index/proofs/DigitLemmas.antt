-- The digits of a number to one of whose digits, which is 0, a value is added.
use Rattle.std.proofs.Common.{◌≡◌, ℕ, suc, ◌+◌, ◌-◌, ◌*◌, ◌/◌, ◌%◌, ◌^◌, ◌<◌, ◌≤◌, inl, inr, ap, subst, sym, ◌∙◌, arith}
use Rattle.std.proofs.lemmas.Bool.{cases_lt}
use Rattle.std.proofs.lemmas.Nat.{pow_pos, pow-add, div-add-mod', div-mul-add, shl_whole, shr_below}
use Rattle.std.proofs.Math.Nat.{add-mul-div_right, mod-add-mod, mod-eq_of_lt, add-mul-mod_self_right, div-div-eq-div-mul, div-lt_iff_lt-mul}
use Rattle.elsa_hash_index.specs.Row.{digit}

sum_low : (m x b : ℕ) → m % b ≡ 0 → x < b → (m + x) % b ≡ x
sum_low m x b free lt =
    let none : 0 + x ≡ x = omega arith in
    sym (mod-add-mod m b x) ∙ (ap (λ k. (k + x) % b) free ∙ (ap (λ k. k % b) none ∙ mod-eq_of_lt lt))

sum_high : (m x b : ℕ) → m % b ≡ 0 → x < b → (m + x) / b ≡ m / b
sum_high m x b free lt =
    let e : m + x ≡ m / b * b + x = omega (arith, div-add-mod' m b, free) in
    ap (λ k. k / b) e ∙ div-mul-add (m / b) b x lt

added : (n x s : ℕ) → (n + x * 2 ^ s) / 2 ^ s ≡ n / 2 ^ s + x
added n x s = add-mul-div_right n x (pow_pos s)

-- The digit has the value.
pub set_same : (bits j n x : ℕ) → digit bits j n ≡ 0 → x < 2 ^ bits → digit bits j (n + x * 2 ^ (j * bits)) ≡ x
set_same bits j n x free lt = ap (λ m. m % 2 ^ bits) (added n x (j * bits)) ∙ sum_low (n / 2 ^ (j * bits)) x (2 ^ bits) free lt

power : (bits j e : ℕ) → 2 ^ (suc (j + e) * bits) ≡ 2 ^ (j * bits) * (2 ^ bits * 2 ^ (e * bits))
power bits j e =
    let sum : suc (j + e) * bits ≡ j * bits + (bits + e * bits) = omega arith in
    ap (λ k. 2 ^ k) sum ∙ (pow-add 2 (j * bits) (bits + e * bits) ∙ ap (λ m. 2 ^ (j * bits) * m) (pow-add 2 bits (e * bits)))

-- The higher quotient is unchanged.
pub above : (bits j n x e : ℕ) → digit bits j n ≡ 0 → x < 2 ^ bits → (n + x * 2 ^ (j * bits)) / 2 ^ (suc (j + e) * bits) ≡ n / 2 ^ (suc (j + e) * bits)
above bits j n x e free lt =
    let p = 2 ^ (j * bits) in
    let b = 2 ^ bits in
    let r = 2 ^ (e * bits) in
    let split : (a : ℕ) → a / 2 ^ (suc (j + e) * bits) ≡ a / p / b / r = λ a. ap (λ m. a / m) (power bits j e) ∙ (sym (div-div-eq-div-mul a p (b * r)) ∙ sym (div-div-eq-div-mul (a / p) b r)) in
    split (n + x * p) ∙ (ap (λ m. m / b / r) (added n x (j * bits)) ∙ (ap (λ m. m / r) (sum_high (n / p) x b free lt) ∙ sym (split n)))

below : (bits k n x e : ℕ) → digit bits k (n + x * 2 ^ (suc (k + e) * bits)) ≡ digit bits k n
below bits k n x e =
    let p = 2 ^ (k * bits) in
    let b = 2 ^ bits in
    let r = 2 ^ (e * bits) in
    let sum : x * 2 ^ (suc (k + e) * bits) ≡ x * r * b * p = ap (λ m. x * m) (power bits k e) ∙ omega arith in
    ap (λ m. (n + m) / p % b) sum ∙ (ap (λ m. m % b) (added n (x * r * b) (k * bits)) ∙ add-mul-mod_self_right (n / p) (x * r) b)

-- Each other digit is unchanged.
pub set_other : (bits j k n x : ℕ) → digit bits j n ≡ 0 → x < 2 ^ bits → (k ≡ j → ⊥) → digit bits k (n + x * 2 ^ (j * bits)) ≡ digit bits k n
set_other bits j k n x free lt ne = elim (cases_lt k j) [
  | inl less ↦
      let e : suc (k + (j - suc k)) ≡ j = omega (arith, less) in
      subst (λ i. digit bits k (n + x * 2 ^ (i * bits)) ≡ digit bits k n) e (below bits k n x (j - suc k))
  | inr more ↦
      let other : j < k = grind (arith, more, ne) in
      let e : suc (j + (k - suc j)) ≡ k = omega (arith, other) in
      ap (λ m. m % 2 ^ bits) (subst (λ i. (n + x * 2 ^ (j * bits)) / 2 ^ (i * bits) ≡ n / 2 ^ (i * bits)) e (above bits j n x (k - suc j) free lt))
]

-- The sum has at most 64 bits, so neither the shift nor the sum wraps.
pub set_fits : (bits j n x : ℕ) → digit bits j n ≡ 0 → x < 2 ^ bits → n < 2 ^ 64 → j * bits + bits ≤ 64 → (n + (x * 2 ^ (j * bits)) % 2 ^ 64) % 2 ^ 64 ≡ n + x * 2 ^ (j * bits)
set_fits bits j n x free lt small width =
    let s = j * bits in
    let t : suc (j + 0) * bits ≡ s + bits = omega arith in
    let whole : (x * 2 ^ s) % 2 ^ 64 ≡ x * 2 ^ s = shl_whole x bits s 64 lt (omega (arith, width)) in
    let split : (64 - (s + bits)) + (s + bits) ≡ 64 = omega (arith, width) in
    let quotient : n / 2 ^ (s + bits) < 2 ^ (64 - (s + bits)) = shr_below n (64 - (s + bits)) (s + bits) (subst (λ k. n < 2 ^ k) (sym split) small) in
    let same : (n + x * 2 ^ s) / 2 ^ (s + bits) ≡ n / 2 ^ (s + bits) = subst (λ k. (n + x * 2 ^ s) / 2 ^ k ≡ n / 2 ^ k) t (above bits j n x 0 free lt) in
    let product : n + x * 2 ^ s < 2 ^ (64 - (s + bits)) * 2 ^ (s + bits) = (div-lt_iff_lt-mul (pow_pos (s + bits))).0 (subst (λ q. q < 2 ^ (64 - (s + bits))) (sym same) quotient) in
    let limit : n + x * 2 ^ s < 2 ^ 64 = subst (λ k. n + x * 2 ^ s < k) (sym (pow-add 2 (64 - (s + bits)) (s + bits)) ∙ ap (λ k. 2 ^ k) split) product in
    ap (λ m. (n + m) % 2 ^ 64) whole ∙ mod-eq_of_lt limit

-- The sum as the code writes it, and its digit.
module _ (bits j shift base n x : ℕ) (shifted : shift ≡ j * bits) (based : base ≡ 2 ^ bits) (free : n / 2 ^ shift % base ≡ 0) (fits : x < base) (small : n < 2 ^ 64) (width : shift + bits ≤ 64) where
  pub free_digit : digit bits j n ≡ 0
  free_digit = subst (λ m. n / 2 ^ (j * bits) % m ≡ 0) based (subst (λ t. n / 2 ^ t % base ≡ 0) shifted free)

  pub below_base : x < 2 ^ bits
  below_base = subst (λ m. x < m) based fits

  pub sum_is : (n + (x * 2 ^ shift) % 2 ^ 64) % 2 ^ 64 ≡ n + x * 2 ^ (j * bits)
  sum_is = ap (λ t. (n + (x * 2 ^ t) % 2 ^ 64) % 2 ^ 64) shifted ∙ set_fits bits j n x free_digit below_base small (subst (λ t. t + bits ≤ 64) shifted width)

  pub digit_is : digit bits j ((n + (x * 2 ^ shift) % 2 ^ 64) % 2 ^ 64) ≡ x
  digit_is = ap (digit bits j) sum_is ∙ set_same bits j n x free_digit below_base
