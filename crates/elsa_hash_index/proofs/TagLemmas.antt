-- The word, the bits and the digit of a tag and of a number.
use Rattle.std.proofs.Common.{◌≡◌, ℕ, zero, suc, ◌+◌, ◌*◌, ◌/◌, ◌%◌, ◌^◌, ◌<◌, [], ◌∷◌, get_or, refl, ap, sym, ◌∙◌, arith, if◌then◌else◌}
use native.Mathlib.Nat.{pow-suc, mul_comm}
use lib.Lanes.{number_l, digits_l}
use Rattle.std.proofs.lemmas.Nat.{pow-add}
use Rattle.std.proofs.lemmas.Simd.{get_or_narrower}
use Rattle.std.proofs.lemmas.Bool.{lt-ltb, le-ltb}
use Rattle.elsa_hash_index.specs.Row.{bits_of, digit, tag_words}
use Rattle.elsa_hash_index.specs.Words.{groups_of, number_of}

-- The words of the tags.
pub tag_word_bits : (count word : ℕ) → word < tag_words count → bits_of count word ≡ 8
unfolding bits_of
tag_word_bits count word lt = ap (λ b. if b then 8 else 32) (lt-ltb word (tag_words count) lt)

pub tag_bits : (count at : ℕ) → at < 16 * groups_of count → bits_of count (at / 8) ≡ 8
tag_bits count at lt = tag_word_bits count (at / 8) (omega (arith, lt))

pub tag_digit : (at : ℕ) → 8 * (at / 8) + at % 8 ≡ at
tag_digit at = omega arith

pub number_bits : (count groups at : ℕ) → groups ≡ groups_of count → bits_of count (2 * groups + at / 2) ≡ 32
unfolding bits_of
number_bits count groups at is = ap (λ b. if b then 8 else 32) (le-ltb (2 * groups + at / 2) (tag_words count) (omega (arith, is)))

pub number_digit : (count groups at : ℕ) → groups ≡ groups_of count → 8 * (2 * groups + at / 2) + at % 2 ≡ number_of count at
unfolding number_of
number_digit count groups at is = ap (λ n. 8 * (2 * n + at / 2) + at % 2) is

power : (i : ℕ) → 256 ^ i ≡ 2 ^ (i * 8)
power zero = refl
power (suc i) = let e : 8 + i * 8 ≡ suc i * 8 = omega arith in pow-suc 256 i ∙ (ap (λ n. n * 256) (power i) ∙ (mul_comm (2 ^ (i * 8)) 256 ∙ (sym (pow-add 2 8 (i * 8)) ∙ ap (λ n. 2 ^ n) e)))

-- The bytes of two words are their digits.
pub byte_digit : (low high j i : ℕ) → low < 2 ^ 64 → high < 2 ^ 64 → i < 8 → 8 * j + i < 16
    → get_or (digits_l 256 16 (number_l 18446744073709551616 (low ∷ high ∷ []))) (8 * j + i) 0 ≡ digit 8 i (get_or (low ∷ high ∷ []) j 0)
byte_digit low high j i l h small lt =
    get_or_narrower 18446744073709551616 8 256 16 (low ∷ high ∷ []) j i refl (l, (h, tt)) small lt ∙ ap (λ n. get_or (low ∷ high ∷ []) j 0 / n % 256) (power i)
