use Rattle.std.proofs.Common.{◌*◌, ◌^◌, bit_or, arith, refl, ◌≡◌, ◌/◌, ◌%◌, ◌∙◌, ap, take}
use Rattle.std.specs.Int.{w64, from_le_bytes}
use Rattle.std.proofs.lemmas.Nat.{le_bytes_8}
use Rattle.elsa_program.proofs.DigitLemmas.{padded, padded_below, length_padded, halves, shifted_digits}
use Rattle.elsa_program.proofs.digits.digits_of.Goals as goal

pub returns : goal.returns
returns c =
    let n = c.args.n in
    let short = c.requires.short in
    let d0 : n / 10000 / 100 / 10 ≡ n / 10 / 10 / 10 / 10 / 10 / 10 / 10 % 10 = omega (arith, short) in
    let d1 : n / 10000 / 100 % 10 ≡ n / 10 / 10 / 10 / 10 / 10 / 10 % 10 = omega (arith, short) in
    let d2 : n / 10000 % 100 / 10 ≡ n / 10 / 10 / 10 / 10 / 10 % 10 = omega (arith, short) in
    let d3 : n / 10000 % 100 % 10 ≡ n / 10 / 10 / 10 / 10 % 10 = omega (arith, short) in
    let d4 : n % 10000 / 100 / 10 ≡ n / 10 / 10 / 10 % 10 = omega (arith, short) in
    let d5 : n % 10000 / 100 % 10 ≡ n / 10 / 10 % 10 = omega (arith, short) in
    let d6 : n % 10000 % 100 / 10 ≡ n / 10 % 10 = omega (arith, short) in
    let d7 : n % 10000 % 100 % 10 ≡ n % 10 = omega (arith, short) in
    let f = c.from_le_bytes-front.result in
    let b = c.from_le_bytes-back.result in
    let front = rw (c.pair.ensures, c.pair-2.ensures, d0, d1, d2, d3) at c.from_le_bytes-front.ensures in
    let back = rw (c.pair-3.ensures, c.pair-4.ensures, d4, d5, d6, d7) at c.from_le_bytes-back.ensures in
    let word : bit_or f (b * 2 ^ 32 % 2 ^ 64) ≡ from_le_bytes w64 (padded 8 n) = halves f b (omega (arith, front)) (omega (arith, back)) ∙ omega (arith, front, back) in
    let eight = le_bytes_8 (padded 8 n) _ (length_padded 8 n) (padded_below 8 n) word in
    ap (take c.args.count) c.to_le_bytes.ensures ∙ shifted_digits n _ c.args.count _ short c.ranges.n.fits c.requires.count c.requires.digits.1 refl eight
