-- What contracts know about a reader, a writer and their failures over several calls. The bytes of
-- a device may be known: those that a reader has left, and the content of a writer. If they are not
-- known (`None`), only the failures of the device are.
use Rattle.std.specs.Prelude.{◌≡◌, ℕ, ◌+◌, ◌%◌, ◌^◌, List, ◌++◌, Option, Result, MatchResult}
use Rattle.std.specs.Io.KnownBytes.{Appends}

-- The number of failures increased by one. It wraps at 2^64, so it differs from the one before.
abbrev pub FailedOnce : ℕ → ℕ → Type 0
FailedOnce old new = new ≡ (old + 1) % 2 ^ 64

-- A beginning of the piece was written, and nothing else.
abbrev pub AppendsSome : Option (List ℕ) → Option (List ℕ) → List ℕ → Type 0
AppendsSome old new piece = (begun : List ℕ) × (rest : List ℕ) × (begun ++ rest ≡ piece) × Appends old new begun

-- Some bytes were written. They and the bytes that wait now are the bytes that waited, followed by
-- the piece.
abbrev pub Queued : Option (List ℕ) → List ℕ → Option (List ℕ) → List ℕ → List ℕ → Type 0
Queued old waited new waits piece = (gone : List ℕ) × Appends old new gone × (gone ++ waits ≡ waited ++ piece)

-- A call that failed counted one failure, and a call that succeeded counted none.
abbrev pub CountsFault : {T E : Type 0} → Result T E → ℕ → ℕ → Type 0
CountsFault result old new = MatchResult result (λ _. new ≡ old) (λ _. FailedOnce old new)

-- The piece was appended to the bytes that wait; or the writer failed, and a beginning of these
-- bytes and the piece was written.
abbrev pub Queues : {T E : Type 0} → Result T E → Option (List ℕ) → List ℕ → Option (List ℕ) → List ℕ → List ℕ → Type 0
Queues result old waited new waits piece = MatchResult result (λ _. Queued old waited new waits piece) (λ _. AppendsSome old new (waited ++ piece))
