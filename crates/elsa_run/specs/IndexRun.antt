-- The possible replies to the commands of `run_index`, and the effect of each of them.
use Rattle.std.specs.Prelude.{◌≡◌, ◌↔◌, ℕ, Bool, List, [], length, Some, IsTrue}
use Rattle.elsa_tables.specs.FirstWins.{value_at}
use Rattle.elsa_tables.specs.Insertions.{index_of}
use Rattle.elsa_run.specs.Runs.{Change, held, InsertionAnswers, RunsTo, StepsTo, Kept, Added, Replaced}
use Rattle.elsa_run.specs.declared.run_index.IndexCommand.{IndexCommand}
use Rattle.elsa_run.specs.declared.run_index.IndexCommand.TheVariants.{Insert, InsertFull, InsertNew, InsertFullNew, Get, IndexOf, IsEmpty, Rebase}
use Rattle.elsa_run.specs.declared.run_index.IndexReply.{IndexReply}
use Rattle.elsa_run.specs.declared.run_index.IndexReply.TheVariants.{Item, Full, New, FullNew, Found, Place, Flag, Done, NoMemory}

module _ {K V T B M : Type 0} (eq : K → K → Bool) (target : V → T) (shown : B → T) (entries : M → List (K × B)) where
  -- The reply to an insertion if the content is es: the index and the value of the key, or the
  -- index after the last one and a borrow that shows the given target, or a failure.
  abbrev pub InsertAnswers : List (K × B) → K → V → (ℕ → B → Bool → IndexReply B) → IndexReply B → Type 0
  InsertAnswers es k v = InsertionAnswers NoMemory (λ i b. value_at eq es k ≡ Some b) (λ b. shown b ≡ target v) (index_of eq es k) (length es)

  -- The possible replies to a command if the content is es.
  abbrev pub Answers : List (K × B) → IndexCommand K V M → IndexReply B → Type 0
  Answers es (Insert k v) r = InsertAnswers es k v (λ i b new. Item b) r
  Answers es (InsertFull k v) r = InsertAnswers es k v (λ i b new. Full i b) r
  Answers es (InsertNew k v) r = InsertAnswers es k v (λ i b new. New b new) r
  Answers es (InsertFullNew k v) r = InsertAnswers es k v (λ i b new. FullNew i b new) r
  Answers es (Get k) r = r ≡ Found (value_at eq es k)
  Answers es (IndexOf k) r = r ≡ Place (index_of eq es k)
  Answers es IsEmpty r = (flag : Bool) × (r ≡ Flag flag) × (IsTrue flag ↔ (es ≡ []))
  Answers es (Rebase m) r = r ≡ Done

  -- The effect of a command with this reply: an accepted insertion is added, and `Rebase` starts a
  -- new epoch.
  abbrev pub change : IndexCommand K V M → IndexReply B → Change (K × B)
  change (Insert k v) (Item b) = Added (k, b)
  change (InsertFull k v) (Full i b) = Added (k, b)
  change (InsertNew k v) (New b new) = Added (k, b)
  change (InsertFullNew k v) (FullNew i b new) = Added (k, b)
  change (Rebase m) r = Replaced (entries m)
  change c r = Kept

  -- A replay of these commands that starts with the content es ends with the content fs.
  abbrev pub IndexRunsTo : List (K × B) → List (IndexCommand K V M) → List (IndexReply B) → List (K × B) → Type 0
  IndexRunsTo = RunsTo (held eq (λ p. p.0)) ◌≡◌ Answers change

  -- A command may lead from es to fs with the reply r.
  abbrev pub Step : List (K × B) → IndexCommand K V M → IndexReply B → List (K × B) → Type 0
  Step = StepsTo (held eq (λ p. p.0)) ◌≡◌ Answers change
