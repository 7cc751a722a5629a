-- The replays of an index map.
use Rattle.std.proofs.Common.{◌≡◌, ℕ, Bool, false, List, Some, append-nil, length, Result, Ok, Err}
use Rattle.std.specs.Cmp.{IsEquivalence}
use Rattle.elsa_tables.specs.FirstWins.{value_at}
use Rattle.elsa_tables.specs.Insertions.{index_of, InsertedNew}
use Rattle.elsa_tables.specs.Replay.{Answered}
use Rattle.elsa_run.specs.Runs.{InsertionAnswers, changed, epoch_from, held, Added}
use Rattle.elsa_run.specs.IndexRun.{Answers, IndexRunsTo, Step, change}
use Rattle.elsa_run.specs.declared.run_index.IndexCommand.{IndexCommand}
use Rattle.elsa_run.specs.declared.run_index.IndexReply.{IndexReply}
use Rattle.elsa_run.specs.declared.run_index.IndexReply.TheVariants.{NoMemory}
use Rattle.elsa_maps.proofs.Indices.{none_passes, some_passes}
use Rattle.elsa_run.proofs.Runs.{goes_on, insertion_step, ordered_runs}

-- The flag of an accepted insertion.
abbrev pub told : {B E : Type 0} → Result (B × Bool) E → Bool
told (Ok r) = r.1
told (Err e) = false

-- The reply to an insertion depends on the content, and the insertion leaves the content that a
-- replay has after it.
pub inserted : {K V T B : Type 0} (eq : K → K → Bool) (laws : IsEquivalence eq) (target : V → T) (shown : B → T) (es fs : List (K × B)) (k : K) (v : V) (form : ℕ → B → Bool → IndexReply B) (i : ℕ) (b : B) (new : Bool)
    → InsertedNew eq target shown es k v i b new fs
    → InsertionAnswers NoMemory (λ j c. value_at eq es k ≡ Some c) (λ c. shown c ≡ target v) (index_of eq es k) (length es) form (form i b new) × (held eq (λ p. p.0) (changed (epoch_from es) (Added (k, b))) ≡ fs)
inserted eq laws target shown es fs k v form i b new (h, says) =
    insertion_step eq (λ p. p.0) laws (λ c. (k, c)) NoMemory es fs (index_of eq es k) (λ j c. value_at eq es k ≡ Some c) (λ c. shown c ≡ target v)
    (λ c none shows. none_passes (eq k) _ none) (λ j c at is. some_passes (eq k) _ j at) form i b new says h

-- Calls that got their replies one after the other are a replay.
pub index_runs : {K V T B M : Type 0} (eq : K → K → Bool) (laws : IsEquivalence eq) (target : V → T) (shown : B → T) (entries : M → List (K × B))
    (es fs : List (K × B)) (cs : List (IndexCommand K V M)) (rs : List (IndexReply B)) → Answered (Step eq target shown entries) es cs rs fs → IndexRunsTo eq target shown entries es cs rs fs
index_runs eq laws target shown entries = ordered_runs (held eq (λ p. p.0)) append-nil (goes_on eq (λ p. p.0) laws) (Answers eq target shown entries) (change eq target shown entries)
