-- The reply lines that an interner may write to the bytes of an input. The input is cut into lines,
-- each line is a command, and each command has a reply and leads from names to names. No definition
-- mentions the pieces that are read, arrays, or bytes that wait to be written.
use Rattle.std.specs.Prelude.{◌≡◌, ◌≢◌, ℕ, ◌-◌, ◌^◌, ◌⊎◌, ◌&&◌, nat_eq, nat_lt, Bool, false, if◌then◌else◌, List, [], ◌∷◌, ◌++◌, Option, None, Some, length, drop, position, slice_get, All, codes}
use Rattle.std.specs.List.{starts_with}
use Rattle.std.specs.Str.{bytes_eq, is_utf8, all_ascii_digits}
use Rattle.std.specs.Str.Parse.{digits_value}
use Rattle.std.specs.Fmt.{decimal}
use Rattle.elsa_interner.specs.Names.{IsFull}

-- Lines, each followed by byte 10.
abbrev pub ended : List (List ℕ) → List ℕ
ended [] = []
ended (line ∷ lines) = line ++ 10 ∷ ended lines

-- The bytes are these lines, each followed by byte 10, and then a tail. No line has a byte 10, and
-- neither has the tail.
pub record IsCut (bytes : List ℕ) (lines : List (List ℕ)) (tail : List ℕ) : Type 0 where
  pub joined : bytes ≡ ended lines ++ tail
  pub inside : All (All (λ b. b ≢ 10)) lines
  pub after : All (λ b. b ≢ 10) tail

-- The lines of an input that has ended: the tail is a line if it isn't empty.
abbrev pub with_tail : List (List ℕ) → List ℕ → List (List ℕ)
with_tail lines [] = lines
with_tail lines (b ∷ bs) = lines ++ (b ∷ bs) ∷ []

-- A command: what a line requests.
pub data Command : Type 0 where
  put : List ℕ → Command
  find : List ℕ → Command
  at : ℕ → Command
  len : Command
  bad : Command

-- Whether the text is one or more ASCII digits whose value is at most 2^64 - 1. It may begin with
-- zeros.
abbrev pub is_number : List ℕ → Bool
is_number [] = false
is_number (d ∷ ds) = all_ascii_digits (d ∷ ds) && nat_lt (digits_value 10 (d ∷ ds)) (2 ^ 64)

-- The command of a text: a word, and everything after the one space that follows it.
abbrev pub command_of_text : List ℕ → Command
command_of_text line =
    if starts_with nat_eq line (codes "put ") then put (drop 4 line)
    else (if starts_with nat_eq line (codes "find ") then find (drop 5 line)
    else (if starts_with nat_eq line (codes "at ") && is_number (drop 3 line) then at (digits_value 10 (drop 3 line))
    else (if bytes_eq line (codes "len") then len else bad)))

-- The command of a line. It is `bad` if the line isn't UTF-8.
abbrev pub command_of : List ℕ → Command
command_of line = if is_utf8 line then command_of_text line else bad

-- The number of a text, if it is one of the names.
abbrev pub number_of_text : List (List ℕ) → List ℕ → Option ℕ
number_of_text names text = position (bytes_eq text) names

-- The decimal digits of a number, or the word `none`.
abbrev pub number_or_none : Option ℕ → List ℕ
number_or_none None = codes "none"
number_or_none (Some n) = decimal n

-- A name, or the word `none`.
abbrev pub text_or_none : Option (List ℕ) → List ℕ
text_or_none None = codes "none"
text_or_none (Some text) = text

-- Whether there are 2^32 - 1 names, the greatest number.
abbrev pub is_full : List (List ℕ) → Bool
is_full names = nat_eq (length names) (2 ^ 32 - 1)

-- The names after a `put` of a text, which had this number before if it was a name. A new text
-- becomes the last name unless there are 2^32 - 1 names.
abbrev pub with_name : List (List ℕ) → List ℕ → Option ℕ → List (List ℕ)
with_name names text None = if is_full names then names else names ++ text ∷ []
with_name names text (Some n) = names

-- The reply to a `put` of a text, which had this number before if it was a name. The reply to a new
-- text is the next number, or `too many names` if there are 2^32 - 1 names.
abbrev pub number_put : List (List ℕ) → Option ℕ → List ℕ
number_put names None = if is_full names then codes "too many names" else decimal (length names)
number_put names (Some n) = decimal n

-- The names after a command.
abbrev pub names_after : List (List ℕ) → Command → List (List ℕ)
names_after names (put text) = with_name names text (number_of_text names text)
names_after names (find text) = names
names_after names (at n) = names
names_after names len = names
names_after names bad = names

-- The reply to a command.
abbrev pub answer_of : List (List ℕ) → Command → List ℕ
answer_of names (put text) = number_put names (number_of_text names text)
answer_of names (find text) = number_or_none (number_of_text names text)
answer_of names (at n) = text_or_none (slice_get names n)
answer_of names len = decimal (length names)
answer_of names bad = codes "bad line"

-- The command is a `put` of a new text, and there are 2^32 - 1 names.
abbrev pub LacksNumber : List (List ℕ) → Command → Type 0
LacksNumber names (put text) = IsFull names × (number_of_text names text ≡ None)
LacksNumber names (find text) = ⊥
LacksNumber names (at n) = ⊥
LacksNumber names len = ⊥
LacksNumber names bad = ⊥

-- A command has this reply and leads to these names; or an allocation failed, and the names are
-- unchanged.
abbrev pub Replies : List (List ℕ) → Command → List ℕ → List (List ℕ) → Type 0
Replies names command answer names' =
    ((answer ≡ answer_of names command) × (names' ≡ names_after names command))
    ⊎ ((answer ≡ codes "no memory") × (names' ≡ names))

-- A line has this reply and leads to these names.
abbrev pub AnswersLine : List (List ℕ) → List ℕ → List ℕ → List (List ℕ) → Type 0
AnswersLine names line answer names' = Replies names (command_of line) answer names'

-- The lines have these replies, one after the other, and lead from the first names to the last.
abbrev pub AnswersAll : List (List ℕ) → List (List ℕ) → List (List ℕ) → List (List ℕ) → Type 0
AnswersAll names [] [] names' = names' ≡ names
AnswersAll names [] (answer ∷ answers) names' = ⊥
AnswersAll names (line ∷ lines) [] names' = ⊥
AnswersAll names (line ∷ lines) (answer ∷ answers) names' =
    (next : List (List ℕ)) × AnswersLine names line answer next × AnswersAll next lines answers names'

-- The bytes are the reply lines to these lines, which lead from no names to these.
abbrev pub IsAnsweredTo : List (List ℕ) → List (List ℕ) → List ℕ → Type 0
IsAnsweredTo names lines written = (answers : List (List ℕ)) × AnswersAll [] lines answers names × (written ≡ ended answers)

-- The second bytes are the reply lines to those lines of the first bytes that end with byte 10.
abbrev pub AnswersLines : List ℕ → List ℕ → Type 0
AnswersLines bytes written =
    (lines : List (List ℕ)) × (tail : List ℕ) × (names : List (List ℕ)) × IsCut bytes lines tail × IsAnsweredTo names lines written

-- The second bytes are the reply lines to all lines of the first bytes, the last one included.
abbrev pub AnswersInput : List ℕ → List ℕ → Type 0
AnswersInput bytes written =
    (lines : List (List ℕ)) × (tail : List ℕ) × (names : List (List ℕ)) × IsCut bytes lines tail × IsAnsweredTo names (with_tail lines tail) written
