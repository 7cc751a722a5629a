-- The possible replies to the commands of `run_set`, and the effect of each of them. Each value is
-- its own key.
use Rattle.std.specs.Prelude.{◌≡◌, ℕ, Bool, List, length, position, find, slice_get, Some}
use Rattle.elsa_run.specs.Runs.{Change, held, InsertionAnswers, RunsTo, StepsTo, Kept, Added, Replaced}
use Rattle.elsa_run.specs.declared.run_set.SetCommand.{SetCommand}
use Rattle.elsa_run.specs.declared.run_set.SetCommand.TheVariants.{Insert, InsertFull, InsertNew, InsertFullNew, Get, IndexOf, At, Rebase}
use Rattle.elsa_run.specs.declared.run_set.SetReply.{SetReply}
use Rattle.elsa_run.specs.declared.run_set.SetReply.TheVariants.{Item, Full, New, FullNew, Found, Place, Done, NoMemory}

module _ {V T B M : Type 0} (eq : B → B → Bool) (target : V → T) (shown : B → T) (finds : V → B → Bool) (asks : B → B → Bool) (values : M → List B) where
  -- The reply to an insertion if the content is bs: the index of the equal value and that value, or
  -- the index after the last one and a borrow that shows the given target, or a failure.
  abbrev pub InsertAnswers : List B → V → (ℕ → B → Bool → SetReply B) → SetReply B → Type 0
  InsertAnswers bs v = InsertionAnswers NoMemory (λ i b. slice_get bs i ≡ Some b) (λ b. shown b ≡ target v) (position (finds v) bs) (length bs)

  -- The possible replies to a command if the content is bs.
  abbrev pub Answers : List B → SetCommand V B M → SetReply B → Type 0
  Answers bs (Insert v) r = InsertAnswers bs v (λ i b new. Item b) r
  Answers bs (InsertFull v) r = InsertAnswers bs v (λ i b new. Full i b) r
  Answers bs (InsertNew v) r = InsertAnswers bs v (λ i b new. New b new) r
  Answers bs (InsertFullNew v) r = InsertAnswers bs v (λ i b new. FullNew i b new) r
  Answers bs (Get q) r = r ≡ Found (find (asks q) bs)
  Answers bs (IndexOf q) r = r ≡ Place (position (asks q) bs)
  Answers bs (At i) r = r ≡ Found (slice_get bs i)
  Answers bs (Rebase m) r = r ≡ Done

  -- The effect of a command with this reply: an accepted insertion is added, and `Rebase` starts a
  -- new epoch.
  abbrev pub change : SetCommand V B M → SetReply B → Change B
  change (Insert v) (Item b) = Added b
  change (InsertFull v) (Full i b) = Added b
  change (InsertNew v) (New b new) = Added b
  change (InsertFullNew v) (FullNew i b new) = Added b
  change (Rebase m) r = Replaced (values m)
  change c r = Kept

  -- A replay of these commands that starts with the content bs ends with the content cs.
  abbrev pub SetRunsTo : List B → List (SetCommand V B M) → List (SetReply B) → List B → Type 0
  SetRunsTo = RunsTo (held eq (λ b. b)) ◌≡◌ Answers change

  -- A command may lead from bs to cs with the reply r.
  abbrev pub Step : List B → SetCommand V B M → SetReply B → List B → Type 0
  Step = StepsTo (held eq (λ b. b)) ◌≡◌ Answers change
