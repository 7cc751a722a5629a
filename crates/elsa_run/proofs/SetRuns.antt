-- The replays of an index set.
use Rattle.std.proofs.Common.{◌≡◌, ℕ, Bool, true, false, List, length, position, slice_get, append-nil, map, map-id, sym, ap, ◌∙◌, None, Some}
use Rattle.std.specs.Cmp.{IsEquivalence}
use Rattle.std.specs.List.{list_any}
use Rattle.std.proofs.lemmas.List.Folds.{list_any_at}
use Rattle.std.proofs.lemmas.Option.{slice_get_within, get_or_from_slice_get}
use Rattle.elsa_tables.specs.Insertions.{SetInsertedNew}
use Rattle.elsa_tables.specs.Replay.{Answered}
use Rattle.elsa_run.specs.Runs.{InsertionAnswers, changed, epoch_from, held, Added}
use Rattle.elsa_run.specs.SetRun.{Answers, SetRunsTo, Step, change}
use Rattle.elsa_run.specs.declared.run_set.SetCommand.{SetCommand}
use Rattle.elsa_run.specs.declared.run_set.SetReply.{SetReply}
use Rattle.elsa_run.specs.declared.run_set.SetReply.TheVariants.{NoMemory}
use Rattle.elsa_maps.proofs.Indices.{none_passes}
use Rattle.elsa_run.proofs.Runs.{goes_on, insertion_step, ordered_runs}

module _ {B : Type 0} (eq : B → B → Bool) where
  -- A stored value is found by itself.
  finds_itself : (laws : IsEquivalence eq) (bs : List B) (i : ℕ) (b : B) → slice_get bs i ≡ Some b → list_any (eq b) (map (λ c. c) bs) ≡ true
  finds_itself laws bs i b at = ap (list_any (eq b)) (map-id bs) ∙ list_any_at (eq b) bs i b (slice_get_within bs i b at) (ap (eq b) (get_or_from_slice_get bs i b b at) ∙ laws.refl b)

  -- If a lookup of a value's target finds nothing, the value is absent.
  is_absent : (test : B → Bool) (bs : List B) (b : B) → ((k : B) → test k ≡ eq b k) → position test bs ≡ None → list_any (eq b) (map (λ c. c) bs) ≡ false
  is_absent test bs b same none = ap (list_any (eq b)) (map-id bs) ∙ sym (ap (λ t. list_any t bs) (λ j k. same k j)) ∙ none_passes test bs none

-- The reply to an insertion depends on the content, and the insertion leaves the content that a
-- replay has after it.
pub inserted : {V T B : Type 0} (eq : B → B → Bool) (laws : IsEquivalence eq) (target : V → T) (shown : B → T) (finds : V → B → Bool) (finds_target : (v : V) (b k : B) → shown b ≡ target v → finds v k ≡ eq b k)
    (bs cs : List B) (v : V) (form : ℕ → B → Bool → SetReply B) (i : ℕ) (b : B) (new : Bool) → SetInsertedNew target shown finds bs v i b new cs
    → InsertionAnswers NoMemory (λ j c. slice_get bs j ≡ Some c) (λ c. shown c ≡ target v) (position (finds v) bs) (length bs) form (form i b new) × (held eq (λ c. c) (changed (epoch_from bs) (Added b)) ≡ cs)
inserted eq laws target shown finds finds_target bs cs v form i b new (h, says) =
    insertion_step eq (λ c. c) laws (λ c. c) NoMemory bs cs (position (finds v) bs) (λ j c. slice_get bs j ≡ Some c) (λ c. shown c ≡ target v)
    (λ c none shows. is_absent eq (finds v) bs c (λ k. finds_target v c k shows) none) (λ j c at is. finds_itself eq laws bs j c is) form i b new says h

-- Calls that got their replies one after the other are a replay.
pub set_runs : {V T B M : Type 0} (eq : B → B → Bool) (laws : IsEquivalence eq) (target : V → T) (shown : B → T) (finds : V → B → Bool) (asks : B → B → Bool) (values : M → List B)
    (bs cs : List B) (ks : List (SetCommand V B M)) (rs : List (SetReply B)) → Answered (Step eq target shown finds asks values) bs ks rs cs → SetRunsTo eq target shown finds asks values bs ks rs cs
set_runs eq laws target shown finds asks values = ordered_runs (held eq (λ b. b)) append-nil (goes_on eq (λ b. b) laws) (Answers eq target shown finds asks values) (change eq target shown finds asks values)
