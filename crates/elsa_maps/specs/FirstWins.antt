-- The words of first-wins content: those of the model, and what an insertion into a map leaves, in which the contracts of the maps speak.
use Rattle.std.specs.Prelude.{◌≡◌, ◌+◌, ◌++◌, Bool, List, MatchOption, None, Some, length}
use Rattle.std.specs.List.{AllZip}
use Rattle.std.specs.Map.{keys_of}
use Rattle.std.specs.Option.{option_map}
use Rattle.elsa_tables.specs.FirstWins.{Adds, value_at}
use Rattle.elsa_tables.specs.Insertions.{first_of_each}
pub use Rattle.elsa_tables.specs.FirstWins.{value_at, entry_at, Adds, Keeps, SameAt, same_values, Inserts, HoldsLast}

module _ {K B : Type 0} (eq : K → K → Bool) where
  -- The borrow `b` shows the target of `v`. `new` is `old` with `b` at each key that equals `k`, and has one entry more
  -- than `old`.
  abbrev pub AddsNew : {V T : Type 0} → (V → T) → (B → T) → List (K × B) → K → V → B → List (K × B) → Type 0
  AddsNew target shown old k v b new =
      (shown b ≡ target v) × Adds eq (value_at eq old) (value_at eq new) k b × (length new ≡ length old + 1)

  -- A failed insertion is of an absent key, and leaves the entries unchanged.
  abbrev pub IsRefused : List (K × B) → K → List (K × B) → Type 0
  IsRefused old k new = (new ≡ old) × (value_at eq old k ≡ None)

  -- The content after pairs are inserted into `old` in their order.
  module _ {V T : Type 0} (target : V → T) (shown : B → T) where
    -- A key with a value in `old` keeps it. Any other key has the target of its first pair, or nothing if it has no pair.
    abbrev pub HoldsFirst : List (K × B) → List (K × V) → List (K × B) → Type 0
    HoldsFirst old pairs new = (q : K) → MatchOption (value_at eq old q)
        (option_map shown (value_at eq new q) ≡ option_map target (value_at eq pairs q))
        (λ x. value_at eq new q ≡ Some x)

    -- `new` is `old` and then an entry for the first pair of each new key, in the order of the pairs: its key, and a borrow that shows the target of its value.
    abbrev pub AppendsFirsts : List (K × B) → List (K × V) → List (K × B) → Type 0
    AppendsFirsts old pairs new = (added : List (K × B))
        × AllZip (λ x p. (p.0 ≡ x.0) × (shown p.1 ≡ target x.1)) (first_of_each eq (λ x. x.0) (keys_of old) pairs) added
        × (new ≡ old ++ added)
