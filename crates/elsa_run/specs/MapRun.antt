-- The possible replies to the commands of `run_map`, and the effect of each of them. The entries of
-- a map have no order. So its content is compared with the list of the entries at the start and the
-- first accepted insertion of each other key: by the value at each key, and by the number of
-- entries.
use Rattle.std.specs.Prelude.{◌≡◌, ◌+◌, ◌↔◌, ◌⊎◌, Bool, true, false, IsTrue, List, length, None, Some}
use Rattle.elsa_tables.specs.FirstWins.{Adds, SameAt, value_at}
use Rattle.elsa_run.specs.Runs.{Change, held, RunsTo, Kept, Added, Replaced}
use Rattle.elsa_run.specs.declared.run_map.MapCommand.{MapCommand}
use Rattle.elsa_run.specs.declared.run_map.MapCommand.TheVariants.{Insert, InsertNew, Get, Len, IsEmpty, Rebase}
use Rattle.elsa_run.specs.declared.run_map.MapReply.{MapReply}
use Rattle.elsa_run.specs.declared.run_map.MapReply.TheVariants.{Item, New, Found, Count, Flag, Done, NoMemory}

-- Two lists are the same content: the same value at each key, and the same number of entries.
abbrev pub IsSame : {K B : Type 0} → (K → K → Bool) → List (K × B) → List (K × B) → Type 0
IsSame eq es fs = SameAt (value_at eq es) (value_at eq fs) × (length fs ≡ length es)

module _ {K V T B M : Type 0} (eq : K → K → Bool) (target : V → T) (shown : B → T) (base_entries : M → List (K × B)) where
  -- The reply to an insertion if the content is es: the value of the key, or a borrow that shows
  -- the given target, or a failure if the key is absent.
  abbrev pub InsertAnswers : List (K × B) → K → V → (B → Bool → MapReply B) → MapReply B → Type 0
  InsertAnswers es k v form r = ((b : B) × (r ≡ form b false) × (value_at eq es k ≡ Some b))
      ⊎ ((b : B) × (r ≡ form b true) × (value_at eq es k ≡ None) × (shown b ≡ target v))
      ⊎ ((r ≡ NoMemory) × (value_at eq es k ≡ None))

  -- The possible replies to a command if the content is es.
  abbrev pub Answers : List (K × B) → MapCommand K V M → MapReply B → Type 0
  Answers es (Insert k v) r = InsertAnswers es k v (λ b new. Item b) r
  Answers es (InsertNew k v) r = InsertAnswers es k v (λ b new. New b new) r
  Answers es (Get k) r = r ≡ Found (value_at eq es k)
  Answers es Len r = r ≡ Count (length es)
  Answers es IsEmpty r = (flag : Bool) × (r ≡ Flag flag) × (IsTrue flag ↔ (length es ≡ 0))
  Answers es (Rebase m) r = r ≡ Done

  -- The effect of a command with this reply: an accepted insertion is added, and `Rebase` starts a
  -- new epoch.
  abbrev pub change : MapCommand K V M → MapReply B → Change (K × B)
  change (Insert k v) (Item b) = Added (k, b)
  change (InsertNew k v) (New b new) = Added (k, b)
  change (Rebase m) r = Replaced (base_entries m)
  change c r = Kept

  -- A replay of these commands that starts with the entries of the first list ends with those of
  -- the last one.
  abbrev pub MapRunsTo : List (K × B) → List (MapCommand K V M) → List (MapReply B) → List (K × B) → Type 0
  MapRunsTo = RunsTo (held eq (λ p. p.0)) (IsSame eq) Answers change

  -- One insertion: it returns the value that the key has, or adds the given target, or fails and
  -- changes nothing.
  abbrev pub InsertStep : List (K × B) → K → V → (B → Bool → MapReply B) → MapReply B → List (K × B) → Type 0
  InsertStep es k v form r fs = ((b : B) × (r ≡ form b false) × (value_at eq es k ≡ Some b) × (fs ≡ es))
      ⊎ ((b : B) × (r ≡ form b true) × (value_at eq es k ≡ None) × (shown b ≡ target v) × Adds eq (value_at eq es) (value_at eq fs) k b × (length fs ≡ length es + 1))
      ⊎ ((r ≡ NoMemory) × (value_at eq es k ≡ None) × (fs ≡ es))

  -- A command may lead from es to fs with the reply r.
  abbrev pub Step : List (K × B) → MapCommand K V M → MapReply B → List (K × B) → Type 0
  Step es (Insert k v) r fs = InsertStep es k v (λ b new. Item b) r fs
  Step es (InsertNew k v) r fs = InsertStep es k v (λ b new. New b new) r fs
  Step es (Rebase m) r fs = (r ≡ Done) × (fs ≡ base_entries m)
  Step es look r fs = Answers es look r × (fs ≡ es)
