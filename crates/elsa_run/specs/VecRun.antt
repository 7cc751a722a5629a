-- The possible replies to the commands of `run_vec`, and the effect of each of them. The content is
-- a list of targets: those at the start of the epoch, and then the items of its accepted pushes, in
-- order.
use Rattle.std.specs.Prelude.{◌≡◌, ◌↔◌, ◌⊎◌, ◌-◌, ℕ, Bool, List, [], ◌++◌, length, map, slice_get, Option, IsTrue}
use Rattle.std.specs.Option.{option_map}
use Rattle.elsa_run.specs.Runs.{Change, Epoch, RunsTo, StepsTo, Kept, Added, Replaced}
use Rattle.elsa_run.specs.declared.run_vec.VecCommand.{VecCommand}
use Rattle.elsa_run.specs.declared.run_vec.VecCommand.TheVariants.{Push, PushGet, Get, First, Last, Len, IsEmpty, Rebase}
use Rattle.elsa_run.specs.declared.run_vec.VecReply.{VecReply}
use Rattle.elsa_run.specs.declared.run_vec.VecReply.TheVariants.{Done, Item, Found, Count, Flag, NoMemory}

-- The content: that at the start, and the items of the accepted pushes.
abbrev pub pushed_on : {X : Type 0} → Epoch X → List X
pushed_on e = e.base ++ e.accepted

module _ {T B X M : Type 0} (target : T → X) (shown : B → X) (inner : M → List B) where
  -- A read at the index i returns a borrow that shows the item there, or None exactly if there is
  -- no item.
  abbrev pub FindsAt : List X → ℕ → VecReply B → Type 0
  FindsAt xs i r = (o : Option B) × (r ≡ Found o) × (option_map shown o ≡ slice_get xs i)

  -- The possible replies to a command if the content is xs.
  abbrev pub Answers : List X → VecCommand T M → VecReply B → Type 0
  Answers xs (Push item) r = (r ≡ Done) ⊎ (r ≡ NoMemory)
  Answers xs (PushGet item) r = ((b : B) × (r ≡ Item b) × (shown b ≡ target item)) ⊎ (r ≡ NoMemory)
  Answers xs (Get i) r = FindsAt xs i r
  Answers xs First r = FindsAt xs 0 r
  Answers xs Last r = FindsAt xs (length xs - 1) r
  Answers xs Len r = r ≡ Count (length xs)
  Answers xs IsEmpty r = (flag : Bool) × (r ≡ Flag flag) × (IsTrue flag ↔ (xs ≡ []))
  Answers xs (Rebase m) r = r ≡ Done

  -- The effect of a command with this reply: an accepted push is added, and `Rebase` starts a new
  -- epoch.
  abbrev pub change : VecCommand T M → VecReply B → Change X
  change (Push item) Done = Added (target item)
  change (PushGet item) (Item b) = Added (target item)
  change (Rebase m) r = Replaced (map shown (inner m))
  change c r = Kept

  -- A replay of these commands that starts with the content xs ends with the content ys.
  abbrev pub VecRunsTo : List X → List (VecCommand T M) → List (VecReply B) → List X → Type 0
  VecRunsTo = RunsTo pushed_on ◌≡◌ Answers change

  -- A command may lead from xs to ys with the reply r.
  abbrev pub Step : List X → VecCommand T M → VecReply B → List X → Type 0
  Step = StepsTo pushed_on ◌≡◌ Answers change
