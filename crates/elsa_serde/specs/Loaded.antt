-- The content of a collection after values that were read were inserted, all of them or the first
-- ones.
use Rattle.std.specs.Prelude.{◌≡◌, ◌≢◌, ℕ, Bool, List, [], ◌∷◌, ◌++◌, None, length, position}
use Rattle.std.specs.Str.{bytes_eq}
use Rattle.elsa_interner.specs.Names.{IsFull}
use Rattle.elsa_maps.specs.FirstWins.{AddsNew, value_at}
use Rattle.elsa_serde.specs.Read.{InTurn}
use Rattle.elsa_serde.specs.declared.fault.ReadFault.{ReadFault}
use Rattle.elsa_serde.specs.declared.fault.ReadFault.TheVariants.{Duplicate, TooMany, Memory}

-- Of the values that were read, those in `done` were inserted, and `x` is the next one.
abbrev pub StopsAt : {S X : Type 0} → (S → X → S → Type 0) → S → List X → List X → X → S → Type 0
StopsAt {X = X} step old xs done x new = (rest : List X) × (xs ≡ done ++ x ∷ rest) × InTurn step old done new

-- The content after a failure: the values before some x were inserted. If the failure is a
-- duplicate, its number is the index of x, and x was present then. If it is `TooMany`, the
-- collection is full.
abbrev pub Stops : {S X : Type 0} → (S → X → S → Type 0) → (S → X → Type 0) → (S → Type 0) → S → List X → ReadFault → S → Type 0
Stops {X = X} step present full old xs (Duplicate index) new =
    (done : List X) × (x : X) × StopsAt step old xs done x new × (index ≡ length done) × present new x
Stops {X = X} step present full old xs TooMany new = (done : List X) × (x : X) × StopsAt step old xs done x new × full new
Stops {X = X} step present full old xs Memory new = (done : List X) × (x : X) × StopsAt step old xs done x new

-- The text was no name, and it is the last one now.
abbrev pub AddsName : List (List ℕ) → List ℕ → List (List ℕ) → Type 0
AddsName old text new = (position (bytes_eq text) old ≡ None) × (new ≡ old ++ text ∷ [])

-- The names after a failure to put these texts.
abbrev pub NamesStop : List (List ℕ) → List (List ℕ) → ReadFault → List (List ℕ) → Type 0
NamesStop = Stops AddsName (λ names text. position (bytes_eq text) names ≢ None) IsFull

-- A set, in which `finds` compares values.
module _ {V B T : Type 0} (target : V → T) (shown : B → T) (finds : V → B → Bool) where
  -- The value was absent, and a borrow that shows its target is the last one now.
  abbrev pub AddsValue : List B → V → List B → Type 0
  AddsValue old v new = (b : B) × (position (finds v) old ≡ None) × (shown b ≡ target v) × (new ≡ old ++ b ∷ [])

  -- The set after a failure to insert these values.
  abbrev pub ValuesStop : List B → List V → ReadFault → List B → Type 0
  ValuesStop = Stops AddsValue (λ kept v. position (finds v) kept ≢ None) (λ _. ⊥)

-- A map, in which `same` compares keys. `extends` states what an insertion does.
module _ {K V B T : Type 0} (same : K → K → Bool) (target : V → T) (shown : B → T) (extends : List (K × B) → K → B → List (K × B) → Type 0) where
  -- The key was absent, and now it has a borrow that shows the value's target.
  abbrev pub AddsPair : List (K × B) → K × V → List (K × B) → Type 0
  AddsPair old p new = (b : B) × (value_at same old p.0 ≡ None) × AddsNew same target shown old p.0 p.1 b new × extends old p.0 b new

  -- The map after a failure to insert these entries.
  abbrev pub PairsStop : List (K × B) → List (K × V) → ReadFault → List (K × B) → Type 0
  PairsStop = Stops AddsPair (λ kept p. value_at same kept p.0 ≢ None) (λ _. ⊥)
