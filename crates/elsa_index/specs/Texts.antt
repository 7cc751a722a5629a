-- Lookups and insertions by a text: a set of texts is searched for the bytes, for a text of any
-- lifetime.
use Rattle.std.specs.Prelude.{Bool, List, ℕ}
use Rattle.std.specs.Borrow.{Bor}
use Rattle.std.specs.Str.{bytes_eq}
use Rattle.elsa_tables.specs.Insertions.{SetInserted}

-- Whether a stored text has these bytes.
abbrev pub reads : List ℕ → Bor (List ℕ) → Bool
reads text kept = bytes_eq text kept.now

-- An insertion of these bytes into the texts `old` may return the index i and the stored text b,
-- and leave `new`.
abbrev pub TextInserted : List (Bor (List ℕ)) → List ℕ → ℕ → Bor (List ℕ) → List (Bor (List ℕ)) → Type 0
TextInserted = SetInserted (λ text. text) (λ kept. kept.now) reads
