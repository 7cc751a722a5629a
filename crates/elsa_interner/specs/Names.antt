-- Names, numbered in the order in which they were put first. The names are a list of texts, each as
-- its bytes; the number of a name is its index in the list. The result of a `put` is defined by the
-- index of the text in the list before the call, without a table or an arena.
use Rattle.std.specs.Prelude.{◌≡◌, ℕ, ◌-◌, ◌<◌, ◌/◌, ◌%◌, ◌^◌, List, [], ◌∷◌, ◌++◌, length, map, position, slice_get, Some, MatchOption, bit_xor}
use Rattle.std.specs.Borrow.{Bor}
use Rattle.std.specs.Str.{bytes_eq}
use Rattle.std.specs.declared.hash.BuildHasher as builder
use Rattle.std.specs.declared.hash.Hasher as hasher
use Rattle.elsa_tables.specs.Insertions.{first_of_each}
use Rattle.elsa_buckets.specs.Table.{Entries, indices, Has}

-- A `put` of the text returns n, and the names are `after` then. If the text is a name, n is its
-- number and the names are unchanged. Otherwise n is the next number, and the text is the last
-- name.
abbrev pub Puts : List (List ℕ) → List ℕ → ℕ → List (List ℕ) → Type 0
Puts names text n after = MatchOption (position (bytes_eq text) names)
    ((n ≡ length names) × (after ≡ names ++ text ∷ []))
    (λ i. (n ≡ i) × (after ≡ names))

-- The names are `after` once the texts are put in their order: the names that there were, and then the
-- first of each new text.
abbrev pub PutsAll : List (List ℕ) → List (Bor (List ℕ)) → List (List ℕ) → Type 0
PutsAll names texts after = after ≡ names ++ map (λ text. text.now) (first_of_each bytes_eq (λ text. text.now) names texts)

-- There are 2^32 - 1 names, the greatest number.
abbrev pub IsFull : List (List ℕ) → Type 0
IsFull names = length names ≡ 2 ^ 32 - 1

-- No two numbers have the same name. That each number below the length has one name is true for
-- every list.
abbrev pub IsOneToOne : List (List ℕ) → Type 0
IsOneToOne names = (i j : ℕ) (text : List ℕ) → slice_get names i ≡ Some text → slice_get names j ≡ Some text → i ≡ j

-- The hash under which a table has a text: the hasher is built, the bytes of the text are written
-- to it, and the two halves of what it finishes with are joined by xor.
unfoldable pub text_hash : {S H : Type 0} → builder.Ghosts S H → hasher.Ghosts H → S → List ℕ → ℕ
text_hash b h state text =
    let hash = h.finish (h.write (b.build_hasher state) text) in
    bit_xor hash (hash / 2 ^ 32) % 2 ^ 32

-- A table has the index of each name under the hash of the name, and no other index: the number of
-- its indices is that of the names. No two names are equal.
pub record IsNumbered (hash : List ℕ → ℕ) (table : Entries) (names : List (List ℕ)) : Type 0 where
  pub counted : indices table ≡ length names
  pub entered : (i : ℕ) (text : List ℕ) → slice_get names i ≡ Some text → Has table (hash text) i
  pub one_to_one : IsOneToOne names
