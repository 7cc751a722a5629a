-- The decimal digits of a number of at most eight digits.
use Rattle.std.proofs.Common.{bit_or, ◌≡◌, ℕ, zero, suc, ◌+◌, ◌-◌, ◌*◌, ◌/◌, ◌%◌, ◌^◌, ◌<◌, ◌≤◌, Bool, true, false, ◌&&◌, T, eqb, List, [], ◌∷◌, ◌++◌, length, get_or, take, drop, refl, ap, subst, ◌∙◌, sym, inl, inr, arith, eq-zero-or-pos, eqb→eq, length-append}
use Rattle.std.proofs.lemmas.Fmt.{decimal_digit, decimal_step}
use Rattle.std.proofs.lemmas.List.{drop-append-le, length-take-le, take-take}
use Rattle.std.proofs.lemmas.Slice.{take-put_mid}
use borrow.Rule.Slice.PartMut.{put_mid}
use Rattle.std.proofs.Math.Nat.{div-div-eq-div-mul, pow-succ'}
use Rattle.std.proofs.lemmas.Nat.{pow-add}
use Rattle.std.specs.Int.{byte_at, bytes_low_first}
use Rattle.std.proofs.Math.Seq.{drop-append_seam, take-append-add}
use Rattle.std.specs.Fmt.{decimal}
use Rattle.std.proofs.lemmas.Bool.{cases_lt, false_from_ne_true, le-leb, leb-true}
use Rattle.itoa.proofs.Decimal.{length_four, length_one, length_pair, length_two}
use mir.Val.{bool_byte}
use lib.Dec.{leb}
use Rattle.std.proofs.lemmas.Grind.{or_before_shift}
use lib.Ieee.Fits.{and_l, and_r}
use Rattle.elsa_program.specs.declared.digits.TheConstants.{PAIRS}

abbrev are_pairs : ℕ → Bool
are_pairs zero = true
are_pairs (suc p) = (eqb (get_or PAIRS (p * 2) 0) (48 + p / 10) && eqb (get_or PAIRS (p * 2 + 1) 0) (48 + p % 10)) && are_pairs p

below : (n p : ℕ) → T (are_pairs n) → p < n → (get_or PAIRS (p * 2) 0 ≡ 48 + p / 10) × (get_or PAIRS (p * 2 + 1) 0 ≡ 48 + p % 10)
below zero p t h = absurd (omega arith)
below (suc n) p t h =
    elim (eq-zero-or-pos (n - p)) [
      | inl z ↦ let e : p ≡ n = omega arith in let a = and_l _ (are_pairs n) t in rw e (eqb→eq _ _ (and_l _ _ a), eqb→eq _ _ (and_r _ _ a))
      | inr g ↦ below n p (and_r _ (are_pairs n) t) (omega arith)
    ]

-- The table has the two digits of each number below 100.
pub PAIRS_at : (p : ℕ) → p < 100 → (get_or PAIRS (p * 2) 0 ≡ 48 + p / 10) × (get_or PAIRS (p * 2 + 1) 0 ≡ 48 + p % 10)
PAIRS_at p h = below 100 p tt h

-- The last k digits of a number, with zeros before shorter numbers.
abbrev pub padded : ℕ → ℕ → List ℕ
padded zero n = []
padded (suc k) n = padded k (n / 10) ++ (48 + n % 10) ∷ []

-- Their number is k.
pub length_padded : (k n : ℕ) → length (padded k n) ≡ k
length_padded zero n = refl
length_padded (suc k) n = omega (arith, length-append (padded k (n / 10)) ((48 + n % 10) ∷ []), length_padded k (n / 10))

-- After the leading zeros follow the digits of the number.
pub behind_zeros : (k n : ℕ) → n < 10 ^ suc k → n < 2 ^ 64 → drop (suc k - length (decimal n)) (padded (suc k) n) ≡ decimal n
behind_zeros zero n h small = rw (decimal_digit n h) (ap (λ d. (48 + d) ∷ []) (omega arith))
behind_zeros (suc k) n h small = elim (eq-zero-or-pos (n - 9)) [
  | inl z ↦
      let one = decimal_digit n (omega arith) in
      let e : suc (suc k) - length (decimal n) ≡ length (padded (suc k) (n / 10)) = omega (arith, ap length one, length_padded (suc k) (n / 10)) in
      let same : n % 10 ≡ n = omega arith in
      ap (λ i. drop i (padded (suc (suc k)) n)) e ∙ drop-append_seam (padded (suc k) (n / 10)) ((48 + n % 10) ∷ []) ∙ ap (λ d. (48 + d) ∷ []) same ∙ sym one
  | inr g ↦
      let step = decimal_step n (omega arith) small in
      let power = pow-succ' 10 (suc k) in
      let i = behind_zeros k (n / 10) (omega (arith, power, h)) (omega arith) in
      let long = ap length step ∙ length-append (decimal (n / 10)) ((48 + n % 10) ∷ []) in
      let e : suc (suc k) - length (decimal n) ≡ suc k - length (decimal (n / 10)) = omega (arith, long) in
      ap (λ i. drop i (padded (suc (suc k)) n)) e
      ∙ drop-append-le (suc k - length (decimal (n / 10))) (padded (suc k) (n / 10)) ((48 + n % 10) ∷ []) (omega (arith, length_padded (suc k) (n / 10)))
      ∙ ap (λ ds. ds ++ (48 + n % 10) ∷ []) i ∙ sym step
]

yes : (k n : ℕ) → k ≤ n → leb k n ≡ true
yes k n h = le-leb k n h

no : (k n : ℕ) → n < k → leb k n ≡ false
no k n h = false_from_ne_true (leb k n) (λ e. omega (arith, h, leb-true k n e))

-- For a number below 10000, three comparisons count its digits.
few_counted : (n : ℕ) → n < 10000 → ((1 + bool_byte (leb 10 n)) + bool_byte (leb 100 n)) + bool_byte (leb 1000 n) ≡ length (decimal n)
few_counted n h = elim (cases_lt n 10) [
  | inl a ↦ rw (no 10 n a, no 100 n (omega (arith, a)), no 1000 n (omega (arith, a))) (sym (length_one n a))
  | inr b ↦ elim (cases_lt n 100) [
    | inl a ↦ rw (yes 10 n b, no 100 n a, no 1000 n (omega (arith, a))) (sym (length_two n b a))
    | inr d ↦
        let more = length_pair n d (omega (arith, h)) in
        elim (cases_lt n 1000) [
          | inl a ↦ rw (yes 10 n (omega (arith, d)), yes 100 n d, no 1000 n a) (sym (more ∙ ap (λ k. k + 2) (length_one (n / 100) (omega (arith, a)))))
          | inr e ↦ rw (yes 10 n (omega (arith, d)), yes 100 n d, yes 1000 n e) (sym (more ∙ ap (λ k. k + 2) (length_two (n / 100) (omega (arith, e)) (omega (arith, h)))))
        ]
  ]
]

shifted : (k n : ℕ) → leb (k * 10000) n ≡ leb k (n / 10000)
shifted k n = elim (cases_lt n (k * 10000)) [
  | inl a ↦ no (k * 10000) n a ∙ sym (no k (n / 10000) (omega (arith, a)))
  | inr b ↦ yes (k * 10000) n b ∙ sym (yes k (n / 10000) (omega (arith, b)))
]

-- For a number of at most eight digits, seven comparisons count them.
pub counted : (n : ℕ) → n < 10 ^ 8 → n < 2 ^ 64
    → ((((((1 + bool_byte (leb 10 n)) + bool_byte (leb 100 n)) + bool_byte (leb 1000 n)) + bool_byte (leb 10000 n)) + bool_byte (leb 100000 n)) + bool_byte (leb 1000000 n)) + bool_byte (leb 10000000 n) ≡ length (decimal n)
counted n h small = elim (cases_lt n 10000) [
  | inl a ↦
      let few = few_counted n a in
      rw (no 10000 n a, no 100000 n (omega (arith, a)), no 1000000 n (omega (arith, a)), no 10000000 n (omega (arith, a))) (omega (arith, few))
  | inr b ↦
      let few = few_counted (n / 10000) (omega (arith, h)) in
      let s1 : leb 100000 n ≡ leb 10 (n / 10000) = shifted 10 n in
      let s2 : leb 1000000 n ≡ leb 100 (n / 10000) = shifted 100 n in
      let s3 : leb 10000000 n ≡ leb 1000 (n / 10000) = shifted 1000 n in
      rw (yes 10 n (omega (arith, b)), yes 100 n (omega (arith, b)), yes 1000 n (omega (arith, b)), yes 10000 n b, s1, s2, s3) (omega (arith, few, length_four n b small))
]

below_snoc : (xs : List ℕ) (y : ℕ) → ((i : ℕ) → get_or xs i 0 < 256) → y < 256 → (i : ℕ) → get_or (xs ++ y ∷ []) i 0 < 256
below_snoc [] y all small zero = small
below_snoc [] y all small (suc i) = omega arith
below_snoc (x ∷ xs) y all small zero = all zero
below_snoc (x ∷ xs) y all small (suc i) = below_snoc xs y (λ j. all (suc j)) small i

-- Each digit is a byte.
pub padded_below : (k n i : ℕ) → get_or (padded k n) i 0 < 256
padded_below zero n i = omega arith
padded_below (suc k) n i = below_snoc (padded k (n / 10)) (48 + n % 10) (padded_below k (n / 10)) (omega arith) i

byte_is : (i n : ℕ) → byte_at i n ≡ n / 256 ^ i % 256
byte_is zero n = omega arith
byte_is (suc i) n = refl

-- If a number is shifted by s bytes, its byte i is byte s + i of the number before.
byte_behind : (s i n : ℕ) → byte_at i (n / 256 ^ s) ≡ byte_at (s + i) n
byte_behind s i n = byte_is i (n / 256 ^ s) ∙ ap (λ m. m % 256) (div-div-eq-div-mul n (256 ^ s) (256 ^ i) ∙ ap (λ p. n / p) (sym (pow-add 256 s i))) ∙ sym (byte_is (s + i) n)

bytes_behind : (s i k n : ℕ) → bytes_low_first i k (n / 256 ^ s) ≡ bytes_low_first (s + i) k n
bytes_behind s i zero n = refl
bytes_behind s i (suc k) n =
    let next : s + suc i ≡ suc (s + i) = omega arith in
    ap (λ b. b ∷ bytes_low_first (suc i) k (n / 256 ^ s)) (byte_behind s i n)
    ∙ ap (λ t. byte_at (s + i) n ∷ t) (bytes_behind s (suc i) k n ∙ ap (λ j. bytes_low_first j k n) next)

drop_bytes : (s i k n : ℕ) → drop s (bytes_low_first i (s + k) n) ≡ bytes_low_first (s + i) k n
drop_bytes zero i k n =
    let same : 0 + k ≡ k = omega arith in
    let here : i ≡ 0 + i = omega arith in
    ap (λ m. bytes_low_first i m n) same ∙ ap (λ j. bytes_low_first j k n) here
drop_bytes (suc s) i k n =
    let more : suc s + k ≡ suc (s + k) = omega arith in
    let next : s + suc i ≡ suc s + i = omega arith in
    ap (λ m. drop (suc s) (bytes_low_first i m n)) more ∙ drop_bytes s (suc i) k n ∙ ap (λ j. bytes_low_first j k n) next

take_bytes : (k m i n : ℕ) → take k (bytes_low_first i (k + m) n) ≡ bytes_low_first i k n
take_bytes zero m i n = refl
take_bytes (suc k) m i n =
    let more : suc k + m ≡ suc (k + m) = omega arith in
    ap (λ j. take (suc k) (bytes_low_first i j n)) more ∙ ap (λ t. byte_at i n ∷ t) (take_bytes k m (suc i) n)

bits_of : (s : ℕ) → 2 ^ (8 * s) ≡ 256 ^ s
bits_of zero = refl
bits_of (suc s) =
    let more : 8 * suc s ≡ 8 + 8 * s = omega arith in
    ap (λ k. 2 ^ k) more ∙ pow-add 2 8 (8 * s) ∙ ap (λ p. 256 * p) (bits_of s) ∙ sym (pow-succ' 256 s)

-- Two words of four bytes are joined to one of eight.
pub halves : (low high : ℕ) → low < 2 ^ 32 → high < 2 ^ 32 → bit_or low (high * 2 ^ 32 % 2 ^ 64) ≡ high * 2 ^ 32 + low
halves low high small fits = or_before_shift low high (2 ^ 32) (2 ^ 64) refl small (omega (arith, fits))

-- If a word whose bytes are the eight digits of a number is shifted by its leading zeros, its first
-- bytes are the number's digits.
pub shifted_digits : (n word count shift : ℕ) → n < 10 ^ 8 → n < 2 ^ 64 → count ≡ length (decimal n) → count ≤ 8 → shift ≡ 8 * (8 - count) → bytes_low_first 0 8 word ≡ padded 8 n
    → take count (bytes_low_first 0 8 (word / 2 ^ shift)) ≡ decimal n
shifted_digits n word count shift h small counted few by is =
    let s = 8 - count in
    let all : count + s ≡ 8 = omega arith in
    let turned : s + count ≡ 8 = omega arith in
    let power : 2 ^ shift ≡ 256 ^ s = ap (λ k. 2 ^ k) by ∙ bits_of s in
    let front : take count (bytes_low_first 0 8 (word / 256 ^ s)) ≡ bytes_low_first 0 count (word / 256 ^ s) = subst (λ k. take count (bytes_low_first 0 k (word / 256 ^ s)) ≡ bytes_low_first 0 count (word / 256 ^ s)) all (take_bytes count s 0 (word / 256 ^ s)) in
    let back : drop s (bytes_low_first 0 8 word) ≡ bytes_low_first (s + 0) count word = subst (λ k. drop s (bytes_low_first 0 k word) ≡ bytes_low_first (s + 0) count word) turned (drop_bytes s 0 count word) in
    ap (λ p. take count (bytes_low_first 0 8 (word / p))) power ∙ front ∙ bytes_behind s 0 count word ∙ sym back ∙ ap (drop s) is ∙ ap (λ c. drop (8 - c) (padded 8 n)) counted ∙ behind_zeros 7 n h small

-- If a part was written after the first bytes, and the piece is a beginning of that part, the piece
-- follows the first bytes.
pub behind_first : (a k m : ℕ) (xs ys piece : List ℕ) → a ≤ length xs → m ≤ length ys → take m ys ≡ piece → take (a + m) (put_mid a k xs ys) ≡ take a xs ++ piece
behind_first a k m xs ys piece within some begins =
    let e : a + m ≡ length (take a xs) + m = ap (λ i. i + m) (sym (length-take-le a xs within)) in
    sym (take-take (a + m) (a + length ys) (put_mid a k xs ys) (omega arith))
    ∙ ap (take (a + m)) (take-put_mid a k xs ys (a + length ys) refl within)
    ∙ ap (λ i. take i (take a xs ++ ys)) e
    ∙ take-append-add (take a xs) ys m
    ∙ ap (λ t. take a xs ++ t) begins
