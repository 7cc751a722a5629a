-- The first character of a text, cut off.
use Rattle.std.proofs.Common.{◌≡◌, ◌≤◌, ◌-◌, ℕ, List, [], ◌∷◌, ◌++◌, length, take, drop, encode_utf8, sym, ap, ◌∙◌, arith}
use Rattle.std.specs.Char.{len_utf8}
use Rattle.std.specs.List.{slice_range}
use Rattle.std.specs.Str.{IsUtf8}
use Rattle.std.proofs.lemmas.List.{take-append-le, take_rest}
use Rattle.std.proofs.lemmas.Str.{chars-nil, chars_past_char, length-encode}
use Rattle.elsa_cache.specs.Cached.{encoded_first, first_character}

-- the bytes of the first character
pub first_cut : (text rest : List ℕ) (c n : ℕ) → IsUtf8 text → text ≡ encode_utf8 c ++ rest → n ≡ len_utf8 c → slice_range text 0 n ≡ first_character text
first_cut text rest c n utf8 whole is =
    let count : n ≡ length (encode_utf8 c) = is ∙ sym (length-encode c) in
    let within : length (encode_utf8 c) - 0 ≤ length (encode_utf8 c) = omega arith in
    (λ i. take (count i - 0) (drop 0 (whole i))) ∙ take-append-le (length (encode_utf8 c) - 0) (encode_utf8 c) rest within ∙ take_rest (encode_utf8 c) 0 ∙ sym (ap encoded_first (chars_past_char text rest c utf8 whole))

-- the empty text has none
pub no_first : (text : List ℕ) → length text ≡ 0 → text ≡ first_character text
no_first [] none = sym (ap encoded_first chars-nil)
no_first (x ∷ xs) none = absurd (omega arith)
