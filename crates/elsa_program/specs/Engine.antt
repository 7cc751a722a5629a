-- What a run of the engine did: which bytes it read, and which it wrote. Each definition states
-- that some bytes were read and some were written, and relates them only by the definitions of
-- Lines.
use Rattle.std.specs.Prelude.{◌≡◌, ℕ, ◌-◌, ◌^◌, ◌≤◌, ◌⊎◌, List, Option, Result, Ok, Err, length}
use Rattle.std.specs.Io.KnownBytes.{Appends, Consumes, IsAtEnd}
use Rattle.elsa_program.specs.Devices.{AppendsSome, FailedOnce}
use Rattle.elsa_program.specs.Lines.{AnswersLines, AnswersInput}
use Rattle.elsa_program.specs.declared.engine.EngineFault.{EngineFault}
use Rattle.elsa_program.specs.declared.engine.EngineFault.TheVariants.{Read, Write, Endless}

-- At least n bytes were read, and the replies to those of their lines that end with byte 10 were
-- written.
abbrev pub HasAnswered : ℕ → Option (List ℕ) → Option (List ℕ) → Option (List ℕ) → Option (List ℕ) → Type 0
HasAnswered n left left' held held' =
    (bytes : List ℕ) × (written : List ℕ)
    × (n ≤ length bytes) × Consumes left left' bytes × AnswersLines bytes written × Appends held held' written

-- The input was read to its end, and the replies to all its lines were written, the last one
-- included.
abbrev pub HasAnsweredAll : Option (List ℕ) → Option (List ℕ) → Option (List ℕ) → Option (List ℕ) → Type 0
HasAnsweredAll left left' held held' =
    (bytes : List ℕ) × (written : List ℕ)
    × Consumes left left' bytes × IsAtEnd left' × AnswersInput bytes written × Appends held held' written

-- Some bytes were read, and a beginning of the replies to their lines was written. A last line
-- without byte 10 has a reply only if the input has ended.
abbrev pub HasAnsweredSome : Option (List ℕ) → Option (List ℕ) → Option (List ℕ) → Option (List ℕ) → Type 0
HasAnsweredSome left left' held held' =
    (bytes : List ℕ) × (answers : List ℕ)
    × Consumes left left' bytes × (AnswersLines bytes answers ⊎ (IsAtEnd left' × AnswersInput bytes answers)) × AppendsSome held held' answers

-- What a run did, by its result. `Ok`: it read all and wrote all replies. `Write`: it wrote a
-- beginning of the replies. `Read`: it wrote the replies to all lines that it read. `Endless`: the
-- same, after at least 2^64 - 1 bytes.
abbrev pub HasRun : {T : Type 0} → Result T EngineFault → Option (List ℕ) → Option (List ℕ) → Option (List ℕ) → Option (List ℕ) → Type 0
HasRun (Ok x) left left' held held' = HasAnsweredAll left left' held held'
HasRun (Err Read) left left' held held' = HasAnswered 0 left left' held held'
HasRun (Err Write) left left' held held' = HasAnsweredSome left left' held held'
HasRun (Err Endless) left left' held held' = HasAnswered (2 ^ 64 - 1) left left' held held'

-- The device that failed in a run with this result counted one failure. Otherwise no failure was
-- counted.
abbrev pub CountsRun : {T : Type 0} → Result T EngineFault → ℕ → ℕ → ℕ → ℕ → Type 0
CountsRun (Ok x) reads reads' writes writes' = (reads' ≡ reads) × (writes' ≡ writes)
CountsRun (Err Read) reads reads' writes writes' = FailedOnce reads reads' × (writes' ≡ writes)
CountsRun (Err Write) reads reads' writes writes' = (reads' ≡ reads) × FailedOnce writes writes'
CountsRun (Err Endless) reads reads' writes writes' = (reads' ≡ reads) × (writes' ≡ writes)
