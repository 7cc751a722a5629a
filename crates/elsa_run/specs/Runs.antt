-- Replays of commands. The content of a collection isn't carried from call to call: it is computed
-- from the content at the start of the epoch and from all accepted insertions of the epoch.
use Rattle.std.specs.Prelude.{◌≡◌, ◌⊎◌, ℕ, Bool, true, false, List, [], ◌∷◌, ◌++◌, map, Option, None, Some}
use Rattle.elsa_tables.specs.Insertions.{first_of_each}

-- An epoch: the content at its start, and its accepted insertions with the values of their replies,
-- in order.
pub record Epoch (X : Type 0) : Type 0 where
  pub base : List X
  pub accepted : List X

-- The content: that at the start, and the first accepted insertion of each other key.
abbrev pub held : {X K : Type 0} → (K → K → Bool) → (X → K) → Epoch X → List X
held eq key e = e.base ++ first_of_each eq key (map key e.base) e.accepted

-- An epoch that starts with this content.
abbrev pub epoch_from : {X : Type 0} → List X → Epoch X
epoch_from base = record { base = base; accepted = [] }

-- The effect of a call: the content is unchanged, an accepted insertion is added, or the content is
-- replaced.
pub data Change (X : Type 0) : Type 0 where
  Kept : Change X
  Added : X → Change X
  Replaced : List X → Change X

-- The epoch after a call with this effect.
abbrev pub changed : {X : Type 0} → Epoch X → Change X → Epoch X
changed e Kept = e
changed e (Added x) = record { base = e.base; accepted = e.accepted ++ x ∷ [] }
changed e (Replaced base) = epoch_from base

-- An insertion into a collection whose entries have an index. `at` is the index of an equal key, if
-- there is one. `stands i b` states that b is at the index i, and `shows b` states that b is a
-- borrow of the given value.
module _ {B R : Type 0} (refused : R) (stands : ℕ → B → Type 0) (shows : B → Type 0) where
  -- The reply has the index and the value of an equal key, or the index after the last one and a
  -- borrow of the given value; or the insertion failed.
  abbrev pub InsertionAnswers : Option ℕ → ℕ → (ℕ → B → Bool → R) → R → Type 0
  InsertionAnswers at count form r = ((i : ℕ) × (b : B) × (r ≡ form i b false) × (at ≡ Some i) × stands i b)
      ⊎ ((b : B) × (r ≡ form count b true) × (at ≡ None) × shows b)
      ⊎ ((r ≡ refused) × (at ≡ None))

-- `content e` is the content of the epoch e. `Same` states that two lists are the same content.
-- `Answers es c r` states that r is a possible reply to the command c if the content is es.
module _ {X C R : Type 0} (content : Epoch X → List X) (Same : List X → List X → Type 0) (Answers : List X → C → R → Type 0) (change : C → R → Change X) where
  -- Each command got one possible reply, from the first epoch to the last one.
  abbrev pub Run : Epoch X → List C → List R → Epoch X → Type 0
  Run e [] [] f = f ≡ e
  Run e (c ∷ cs) (r ∷ rs) f = Answers (content e) c r × Run (changed e (change c r)) cs rs f
  Run e cs rs f = ⊥

  -- A replay that starts with the content es ends with the content fs.
  abbrev pub RunsTo : List X → List C → List R → List X → Type 0
  RunsTo es cs rs fs = (f : Epoch X) × Run (epoch_from es) cs rs f × Same (content f) fs

  -- One call.
  abbrev pub StepsTo : List X → C → R → List X → Type 0
  StepsTo es c r fs = Answers es c r × Same (content (changed (epoch_from es) (change c r))) fs
