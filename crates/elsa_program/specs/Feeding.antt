-- The steps within the engine: how far a run has read and written, and what one piece of the input
-- changes. No public contract cites these definitions; they state what one private function ensures
-- for the next.
use Rattle.std.specs.Prelude.{◌≡◌, ◌≢◌, ℕ, ◌<◌, Bool, true, false, List, [], ◌++◌, Option, Result, MatchResult, length, All, codes}
use Rattle.elsa_program.specs.Devices.{Queues}
use Rattle.elsa_program.specs.Lines.{IsCut, AnswersLine, IsAnsweredTo, AnswersLines, AnswersInput}

-- No byte is 10.
abbrev pub IsInside : List ℕ → Type 0
IsInside bytes = All (λ b. b ≢ 10) bytes

-- The line that has begun is the tail, or it is skipped and the tail is not empty.
pub record IsSoFar (line : List ℕ) (skips : Bool) (tail : List ℕ) : Type 0 where
  pub kept : skips ≡ false → line ≡ tail
  pub some : skips ≡ true → 0 < length tail

-- The reply to a line that had begun and ends with these bytes, and the names after it. The next
-- line has no byte yet.
pub record IsFinished (names : List (List ℕ)) (line : List ℕ) (skips : Bool) (end answer : List ℕ) (names' : List (List ℕ)) (line' : List ℕ) (skips' : Bool) : Type 0 where
  pub kept : skips ≡ false → AnswersLine names (line ++ end) answer names'
  pub skipped : skips ≡ true → (answer ≡ codes "no memory") × (names' ≡ names)
  pub next : IsSoFar line' skips' []

-- After these bytes there are these names and this line that has begun, and the replies to the
-- lines before it are `written`.
pub record IsReached (bytes : List ℕ) (names : List (List ℕ)) (line : List ℕ) (skips : Bool) (written : List ℕ) : Type 0 where
  pub lines : List (List ℕ)
  pub tail : List ℕ
  pub cut : IsCut bytes lines tail
  pub answered : IsAnsweredTo names lines written
  pub so_far : IsSoFar line skips tail

-- After these bytes there are these names and this line that has begun; or the writer failed, and
-- these are replies to the lines.
abbrev pub Comes : {T E : Type 0} → Result T E → List ℕ → List (List ℕ) → List ℕ → Bool → List ℕ → Type 0
Comes result bytes names line skips written = MatchResult result (λ _. IsReached bytes names line skips written) (λ _. AnswersLines bytes written)

-- A piece was read, and the replies to its lines were appended.
pub record Feeds {T E : Type 0} (result : Result T E) (names : List (List ℕ)) (line : List ℕ) (skips : Bool) (piece : List ℕ) (names' : List (List ℕ)) (line' : List ℕ) (skips' : Bool)
    (old : Option (List ℕ)) (waited : List ℕ) (new : Option (List ℕ)) (waits : List ℕ) : Type 0 where
  pub from : (before written : List ℕ) → IsReached before names line skips written
      → (more : List ℕ) × Comes result (before ++ piece) names' line' skips' (written ++ more) × Queues result old waited new waits more

-- The input has ended, and the replies to all its lines were appended.
pub record Ends {T E : Type 0} (result : Result T E) (names : List (List ℕ)) (line : List ℕ) (skips : Bool)
    (old : Option (List ℕ)) (waited : List ℕ) (new : Option (List ℕ)) (waits : List ℕ) : Type 0 where
  pub from : (bytes written : List ℕ) → IsReached bytes names line skips written → (more : List ℕ) × AnswersInput bytes (written ++ more) × Queues result old waited new waits more
