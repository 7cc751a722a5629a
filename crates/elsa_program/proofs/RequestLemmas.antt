-- The words of a line.
use Rattle.std.proofs.Common.{◌≡◌, ℕ, ◌<◌, ◌^◌, true, false, List, [], ◌∷◌, length, drop, refl, ap, sym, subst, ◌∙◌, arith, nat_eq, nat_lt, lt-ltb, ltb-true, slice_index, Option, Some, None}
use Rattle.std.specs.Prelude.{MatchOption, Result, Ok, Err}
use Rattle.std.specs.List.{starts_with}
use Rattle.std.specs.Int.{IsInRange}
use Rattle.std.specs.Str.{all_ascii_digits, IsCharBoundary}
use Rattle.std.specs.Str.Parse.{digits_value, ParsesUnsigned}
use Rattle.std.specs.Str.Pattern.{FindsTextPrefix, StripsPrefix}
use Rattle.std.specs.Result.{OkIff, result_ok}
use Rattle.std.proofs.lemmas.Bool.{false_from_ne_true}
use Rattle.std.proofs.lemmas.Str.Pattern.{starts_text}
use Rattle.std.proofs.lemmas.Str.Parse.{numerals_by_value, tells_by_index, tells_all_ascii_digits, parse_digits}
use denote.Ref.{Bor}
use Rattle.std.proofs.lemmas.Str.{is_utf8-from_IsUtf8, IsUtf8-from_is_utf8}
use Rattle.std.specs.Str.{IsUtf8, is_utf8}
use Rattle.elsa_program.specs.Lines.{is_number, Command, bad, command_of, command_of_text}

-- The search for a word at the start of a text finds it exactly if the text starts with it.
pub after_word : (n s : List ℕ) (r : Option (Bor (List ℕ))) → MatchOption r (FindsTextPrefix n s None) (λ x. StripsPrefix (FindsTextPrefix n) s x.now)
    → MatchOption r (starts_with nat_eq s n ≡ false) (λ x. (starts_with nat_eq s n ≡ true) × (x.now ≡ drop (length n) s))
after_word n s None h = sym (starts_text false n s h)
after_word n s (Some x) h =
    (sym (starts_text true n s (h.0, h.1, subst (λ k. IsCharBoundary s k) (sym h.1.0) h.1.2)), h.2 ∙ ap (λ k. drop k s) h.1.0)

digits_true : (ds : List ℕ) → ((i : ℕ) → i < length ds → IsInRange 48 57 (slice_index ds i)) → all_ascii_digits ds ≡ true
digits_true ds h = (numerals_by_value _ tells_all_ascii_digits).from ds ((numerals_by_value _ tells_by_index).to ds h)

digits_by_index : (ds : List ℕ) → all_ascii_digits ds ≡ true → (i : ℕ) → i < length ds → IsInRange 48 57 (slice_index ds i)
digits_by_index ds h = (numerals_by_value _ tells_by_index).from ds ((numerals_by_value _ tells_all_ascii_digits).to ds h)

-- If not every byte is a digit, the text is no number.
pub not_number : (ds : List ℕ) → (((i : ℕ) → i < length ds → IsInRange 48 57 (slice_index ds i)) → ⊥) → is_number ds ≡ false
not_number [] h = refl
not_number (d ∷ ds) h = rw (false_from_ne_true (all_ascii_digits (d ∷ ds)) (λ e. h (digits_by_index (d ∷ ds) e))) refl

-- If every byte is a digit, a parse returns the value of the digits exactly if the text is a
-- number.
pub number_parsed : {E : Type 0} (ds : List ℕ) (r : Result ℕ E) (o : Option ℕ) → ((i : ℕ) → i < length ds → IsInRange 48 57 (slice_index ds i)) → ParsesUnsigned 64 10 ds r → o ≡ result_ok r
    → MatchOption o (is_number ds ≡ false) (λ n. (is_number ds ≡ true) × (n ≡ digits_value 10 ds))
number_parsed ds r o all h e = rw e (by_parts ds r (digits_true ds all) (parse_digits (numerals_by_value _ tells_by_index) 64 ds r h all))
  where
    by_parts : {E : Type 0} (ds : List ℕ) (r : Result ℕ E) → all_ascii_digits ds ≡ true → OkIff r ((0 < length ds) × (digits_value 10 ds < 2 ^ 64)) (digits_value 10 ds) → MatchOption (result_ok r) (is_number ds ≡ false) (λ n. (is_number ds ≡ true) × (n ≡ digits_value 10 ds))
    by_parts [] (Ok n) all h = absurd (omega (arith, h.0.0))
    by_parts [] (Err e) all h = refl
    by_parts (d ∷ ds) (Ok n) all h = (rw (all, lt-ltb (digits_value 10 (d ∷ ds)) (2 ^ 64) h.0.1) refl, h.1)
    by_parts (d ∷ ds) (Err e) all h = rw (all, false_from_ne_true (nat_lt (digits_value 10 (d ∷ ds)) (2 ^ 64)) (λ t. h (omega arith, ltb-true _ (2 ^ 64) t))) refl

-- The command of a line that is UTF-8 is that of its text.
pub command_of_text_is : (line : List ℕ) (asks : Command) → IsUtf8 line → asks ≡ command_of_text line → asks ≡ command_of line
command_of_text_is line asks u e = rw (is_utf8-from_IsUtf8 line u) e

-- The command of any other line is `bad`.
pub command_bad : (line : List ℕ) → (IsUtf8 line → ⊥) → bad ≡ command_of line
command_bad line n = rw (false_from_ne_true (is_utf8 line) (λ e. n (IsUtf8-from_is_utf8 line e))) refl
