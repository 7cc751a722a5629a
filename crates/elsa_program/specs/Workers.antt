-- What workers push into the list that they share.
use Rattle.std.specs.Prelude.{ℕ, zero, suc, ◌≡◌, ◌+◌, ◌*◌, ◌<◌, ◌≤◌, All, Contains, IfSome, List, [], ◌∷◌, ◌++◌, length, slice_index_or, Option, Some, None}
use Rattle.elsa_lock_free.specs.declared.event.Entry.{Entry}
use Rattle.elsa_lock_free.specs.SharedList.{Vector, View, pushed_by}
use Rattle.elsa_program.specs.declared.shared.Done.{Done}
use Rattle.elsa_program.specs.declared.shared.SharedFault.{SharedFault}
use Rattle.elsa_program.specs.declared.shared.SharedFault.TheVariants.{Memory, Gate, Check, Thread}

-- The n numbers from `first` on.
abbrev pub numbers : ℕ → ℕ → List ℕ
numbers first zero = []
numbers first (suc n) = numbers first n ++ (first + n) ∷ []

-- When a worker of `count` numbers can end after n of them. Without a fault: after all of them.
-- `Memory`: a push failed, before the last one. `Gate`: the gate returned false, after at least
-- one. `Thread`: the thread wasn't started, so after none.
abbrev pub EndsAfter : ℕ → ℕ → Option SharedFault → Type 0
EndsAfter count n None = n ≡ count
EndsAfter count n (Some Memory) = n < count
EndsAfter count n (Some Gate) = (1 ≤ n) × (n ≤ count)
EndsAfter count n (Some Check) = ⊥
EndsAfter count n (Some Thread) = n ≡ 0

-- What a worker has pushed at its end: its first n numbers, in order.
abbrev pub HasPushed : ℕ → ℕ → List ℕ → Option SharedFault → Type 0
HasPushed count worker pushed fault = (n : ℕ) × (pushed ≡ numbers (worker * count) n) × EndsAfter count n fault

-- The promise of a thread is about this vector, which had the entries `before` when the workers
-- began, about this count and about this worker.
abbrev pub IsPromiseOf : Vector → List (Entry ℕ) → ℕ → ℕ → Vector → List (Entry ℕ) → ℕ → ℕ → Type 0
IsPromiseOf vector before count worker of_vector of_before of_count of_worker =
    (of_vector ≡ vector) × (of_before ≡ before) × (of_count ≡ count) × (of_worker ≡ worker)

-- The result of a worker: a view of the vector, whose writer had pushed nothing when the workers
-- began, and has pushed a beginning of the worker's numbers since.
abbrev pub IsWorkOf : Vector → List (Entry ℕ) → ℕ → ℕ → View ℕ → Option SharedFault → Type 0
IsWorkOf vector before count worker pass fault =
    (pass.vector ≡ vector) × (pushed_by pass.writer before ≡ []) × HasPushed count worker (pushed_by pass.writer pass.seen) fault

-- P is true for each index and the item at it.
abbrev pub Each : {X : Type 0} → (ℕ → X → Type 0) → List X → Type 0
Each {X} P xs = (index : ℕ) (other : X) → index < length xs → P index (slice_index_or xs index other)

-- The results of all workers: each is a worker's result, and this view has observed what they have
-- observed.
abbrev pub HaveHandedBack : {A : Type 0} → Vector → List (Entry ℕ) → ℕ → ℕ → List (Done A) → View ℕ → Type 0
HaveHandedBack vector before count workers done pass =
    (pass.vector ≡ vector) × (length done ≡ workers)
    × Each (λ worker d. IsWorkOf vector before count worker d.pass d.fault) done
    × All (λ d. length d.pass.seen ≤ length pass.seen) done

-- Each worker is a writer of its own, which had pushed nothing when the workers began. Its entries
-- have its numbers in order: those that its fault allows.
pub record HaveWorked (count : ℕ) (before seen : List (Entry ℕ)) (faults : List (Option SharedFault)) : Type 0 where
  pub writer : ℕ → ℕ
  pub apart : (worker other : ℕ) → writer worker ≡ writer other → worker ≡ other
  pub fresh : (worker : ℕ) → pushed_by (writer worker) before ≡ []
  pub pushed : Each (λ worker fault. HasPushed count worker (pushed_by (writer worker) seen) fault) faults

-- The order of the faults.
abbrev pub rank : SharedFault → ℕ
rank Memory = 1
rank Gate = 2
rank Check = 3
rank Thread = 4

-- The first of several faults: one of them, and no other precedes it in the order; or none if there
-- is no fault.
abbrev pub IsFirstFault : List (Option SharedFault) → Option SharedFault → Type 0
IsFirstFault faults None = All (λ fault. fault ≡ None) faults
IsFirstFault faults (Some first) = Contains faults (Some first) × All (λ fault. IfSome fault (λ other. rank first ≤ rank other)) faults
