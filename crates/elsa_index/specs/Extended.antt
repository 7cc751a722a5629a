-- The content of an index set after the values of an iterator were inserted.
use Rattle.std.specs.Prelude.{◌≡◌, ◌++◌, Bool, List, All, IsTrue, map}
use Rattle.elsa_tables.specs.Insertions.{first_of_each}

module _ {B V T : Type 0} (eq : B → B → Bool) (target : V → T) (shown : B → T) (finds : V → B → Bool) where
  -- A search for each of the values finds its stored value. The set has the stored values that it
  -- had, and then the first of equal new ones, each of which shows the target of its own value.
  abbrev pub SetExtends : List B → List V → List B → Type 0
  SetExtends old vs new = (ps : List (V × B)) × (map (λ p. p.0) ps ≡ vs) × All (λ p. IsTrue (finds p.0 p.1)) ps
      × (new ≡ old ++ map (λ p. p.1) (first_of_each eq (λ p. p.1) old ps))
      × All (λ p. shown p.1 ≡ target p.0) (first_of_each eq (λ p. p.1) old ps)
