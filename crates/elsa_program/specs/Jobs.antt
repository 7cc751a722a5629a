-- The job of the words of a command line. Each word is its bytes; the program's name is not among
-- them.
use Rattle.std.specs.Prelude.{ℕ, ◌≤◌, ⊤, ◌&&◌, nat_le, Bool, List, [], ◌∷◌, Option, None, Some, codes, if◌then◌else◌}
use Rattle.std.specs.Str.{bytes_eq}
use Rattle.std.specs.Str.Parse.{digits_value}
use Rattle.elsa_program.specs.Lines.{is_number}
use Rattle.elsa_program.specs.declared.jobs.Job.{Job}
use Rattle.elsa_program.specs.declared.jobs.Job.TheVariants.{Intern, Shared}

-- Whether the word is one or more ASCII digits with a value from low to high. It may begin with
-- zeros.
abbrev pub is_number_within : ℕ → ℕ → List ℕ → Bool
is_number_within low high word = is_number word && (nat_le low (digits_value 10 word) && nat_le (digits_value 10 word) high)

-- The job of these words, or none if they are wrong.
abbrev pub job_of : List (List ℕ) → Option Job
job_of [] = None
job_of (word ∷ []) = if bytes_eq word (codes "intern") then Some Intern else None
job_of (word ∷ second ∷ []) = None
job_of (word ∷ workers ∷ numbers ∷ []) =
    if bytes_eq word (codes "shared") && (is_number_within 1 16 workers && is_number_within 0 100000 numbers)
    then Some (Shared (digits_value 10 workers) (digits_value 10 numbers)) else None
job_of (word ∷ second ∷ third ∷ fourth ∷ more) = None

-- A job has one to sixteen workers, with at most 100000 numbers each.
abbrev pub IsWithinLimits : Job → Type 0
IsWithinLimits Intern = ⊤
IsWithinLimits (Shared workers numbers) = (1 ≤ workers) × (workers ≤ 16) × (numbers ≤ 100000)
