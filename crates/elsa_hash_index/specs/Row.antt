-- A row of index entries in a book: the digits of its words after a history, and what a step shows
-- to its thread. An index entry is two digits: a tag of 8 bits, eight of which are in a word, and a
-- number of 32 bits, two of which are in a word.
use Rattle.std.specs.Prelude.{◌≡◌, ℕ, zero, suc, ◌+◌, ◌*◌, ◌/◌, ◌%◌, ◌^◌, ◌<◌, ◌==◌, true, List, [], ◌∷◌, length, Option, Some, None, if◌then◌else◌}
use Rattle.std.specs.Bool.{nat_lt}
use Rattle.logbook.specs.Pages.{Book, Cell, cell, Named, Step, View}
use Rattle.elsa_hash_index.specs.Words.{groups_of}
use Rattle.elsa_hash_index.specs.declared.row.Event.{Event}
use Rattle.elsa_hash_index.specs.declared.row.Event.TheVariants.{Opened, Filled}

-- The first of two numbers, if it isn't 0; otherwise the second.
abbrev pub first_not_0 : ℕ → ℕ → ℕ
first_not_0 zero b = b
first_not_0 (suc a) b = suc a

-- The digit j of a number, of `bits` bits each: digit 0 is the lowest.
abbrev pub digit : ℕ → ℕ → ℕ → ℕ
digit bits j n = n / 2 ^ (j * bits) % 2 ^ bits

-- The number of words of the tags of `count` index entries: two for each group.
abbrev pub tag_words : ℕ → ℕ
tag_words count = 2 * groups_of count

-- The number of words of a row for `count` index entries: those of the tags, then those of the
-- numbers, eight for each group.
abbrev pub words_of : ℕ → ℕ
words_of count = tag_words count + 8 * groups_of count

-- The bits of a digit of the word k: a tag has 8, a number 32.
unfoldable pub bits_of : ℕ → ℕ → ℕ
bits_of count k = if nat_lt k (tag_words count) then 8 else 32

-- `n` words of a book, from the key k on.
abbrev pub named_from : Book → ℕ → ℕ → List Named
named_from b k zero = []
named_from b k (suc n) = record { tracked = true; key = k; book = b } ∷ named_from b (suc k) n

module _ {S : Type 0} where
  -- The value to which an event sets the digit k, or 0. The word k has the digits from 8 * k on.
  abbrev pub filled_by : ℕ → Event S → ℕ
  filled_by k (Opened n s) = 0
  filled_by k (Filled i w) = if i == k then w else 0

  -- The digit k after a history: the value of the first event that set it, or 0.
  abbrev pub word_at : ℕ → List (Event S) → ℕ
  word_at k [] = 0
  word_at k (e ∷ es) = first_not_0 (filled_by k e) (word_at k es)

  -- The number of index entries of a row that this event made.
  abbrev pub opened_by : Event S → ℕ
  opened_by (Opened n s) = n
  opened_by (Filled i w) = 0

  -- The number of index entries of a history's row.
  abbrev pub count_of : List (Event S) → ℕ
  count_of [] = 0
  count_of (e ∷ es) = opened_by e

  -- The builder of the hashers of a row that this event made.
  abbrev pub hashed_by : Event S → Option S
  hashed_by (Opened n s) = Some s
  hashed_by (Filled i w) = None

  -- The builder of the hashers of a history's row.
  abbrev pub builder_of : List (Event S) → Option S
  builder_of [] = None
  builder_of (e ∷ es) = hashed_by e

  -- After a history, each digit of the word k is as in the number n.
  abbrev pub Shows : ℕ → ℕ → List (Event S) → Type 0
  Shows k n log = (j : ℕ) → j < 8 → digit (bits_of (count_of log) k) j n ≡ word_at (8 * k + j) log

  -- The rule: each word has the digits that the history defines.
  pub record IsKept (cells : List Cell) (log : List (Event S)) : Type 0 where
    pub whole : length cells ≡ words_of (count_of log)
    pub home : (k : ℕ) → k < length cells → (cell cells k).1 ≡ true
    pub digits : (k : ℕ) → k < length cells → Shows k (cell cells k).0 log

  -- A load: the loaded word has the digits after the observed history.
  abbrev pub Sees : {A : Type 0} → Step (Event S) → View (Event S) A → ℕ → View (Event S) A → Type 0
  Sees s v found w = Shows s.key found w.0

  -- An exchange: if the word was as expected, it has the digits of the new one.
  abbrev pub Tries : {A : Type 0} → Step (Event S) → View (Event S) A → ℕ → View (Event S) A → Type 0
  Tries s v found w = found ≡ s.old → Shows s.key s.new w.0
