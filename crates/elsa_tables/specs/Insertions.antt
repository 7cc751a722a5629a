-- Content in the order of insertion: a list of values, or of pairs, in the order of their first
-- insertions. The result of an insertion is stated by cases on the index of an equal key in that
-- list; no hash table or arena occurs.
use Rattle.std.specs.Prelude.{◌≡◌, ℕ, Bool, List, [], ◌∷◌, ◌++◌, length, map, position, reverse, slice_get, All, Option, Some, MatchOption, IsTrue, if◌then◌else◌, is_none}
use Rattle.std.specs.List.{list_any, AllZip}
use Rattle.std.specs.Map.{keys_of}
use Rattle.elsa_tables.specs.FirstWins.{value_at}

-- ys begins with xs: the index of each item is unchanged.
abbrev pub Grows : {X : Type 0} → List X → List X → Type 0
Grows {X} xs ys = (more : List X) × (ys ≡ xs ++ more)

module _ {K B : Type 0} (eq : K → K → Bool) where
  -- The index of the pair whose key equals k, if there is one.
  abbrev pub index_of : List (K × B) → K → Option ℕ
  index_of es k = position (eq k) (keys_of es)

  module _ {V T : Type 0} (target : V → T) (shown : B → T) where
    -- An insertion of k and v into es may return the index i and the value b, and leave fs.
    abbrev pub Inserted : List (K × B) → K → V → ℕ → B → List (K × B) → Type 0
    Inserted es k v i b fs = MatchOption (index_of es k)
        ((i ≡ length es) × (shown b ≡ target v) × (fs ≡ es ++ (k, b) ∷ []))
        (λ j. (i ≡ j) × (value_at eq es k ≡ Some b) × (fs ≡ es))

    -- The same insertion may also return `new`, whether the key is new.
    abbrev pub InsertedNew : List (K × B) → K → V → ℕ → B → Bool → List (K × B) → Type 0
    InsertedNew es k v i b new fs = Inserted es k v i b fs × (new ≡ is_none (index_of es k))

  -- fs has the pairs of es in their order: each key is a clone that equals its source, and each
  -- value is the same borrow.
  abbrev pub IsCloneOf : (K → K → Type 0) → List (K × B) → List (K × B) → Type 0
  IsCloneOf is_clone es fs = AllZip (λ p q. is_clone p.0 q.0 × IsTrue (eq p.0 q.0) × (q.1 ≡ p.1)) es fs

-- Insertions into a set, where each value is its own key.
module _ {B V T : Type 0} (target : V → T) (shown : B → T) (finds : V → B → Bool) where
  -- An insertion of v into bs may return the index i and the stored value b, and leave cs.
  abbrev pub SetInserted : List B → V → ℕ → B → List B → Type 0
  SetInserted bs v i b cs = MatchOption (position (finds v) bs)
      ((i ≡ length bs) × (shown b ≡ target v) × (cs ≡ bs ++ b ∷ []))
      (λ j. (i ≡ j) × (slice_get bs i ≡ Some b) × (cs ≡ bs))

  -- The same insertion may also return `new`, whether the value is new.
  abbrev pub SetInsertedNew : List B → V → ℕ → B → Bool → List B → Type 0
  SetInsertedNew bs v i b new cs = SetInserted bs v i b cs × (new ≡ is_none (position (finds v) bs))

-- The items of a list that have a new key.
module _ {X K : Type 0} (eq : K → K → Bool) (key : X → K) where
  -- The items whose key equals no key of `before` and no key of an earlier item.
  abbrev pub first_of_each : List K → List X → List X
  first_of_each before [] = []
  first_of_each before (x ∷ xs) = (if list_any (eq (key x)) before then [] else x ∷ []) ++ first_of_each (before ++ key x ∷ []) xs

-- The set that is collected from values: the first of equal ones stays.
module _ {B V T : Type 0} (eq : B → B → Bool) (target : V → T) (shown : B → T) (finds : V → B → Bool) where
  -- A search for each of the values finds its stored value. The set has the first of equal stored
  -- values, each of which shows the target of its own value.
  abbrev pub SetCollects : List V → List B → Type 0
  SetCollects vs cs = (ps : List (V × B)) × (map (λ p. p.0) ps ≡ vs) × All (λ p. IsTrue (finds p.0 p.1)) ps
      × (cs ≡ map (λ p. p.1) (first_of_each eq (λ p. p.1) [] ps)) × All (λ p. shown p.1 ≡ target p.0) (first_of_each eq (λ p. p.1) [] ps)

-- The map that is collected from pairs. It is not the result of a run of insertions: there the
-- first value of a key stays, here the last one does.
module _ {K B : Type 0} (eq : K → K → Bool) where
  -- es has the keys in the order of their first pairs, each with the value of its last pair.
  abbrev pub Collects : List (K × B) → List (K × B) → Type 0
  Collects ps es = (keys_of es ≡ keys_of (first_of_each eq (λ p. p.0) [] ps)) × ((k : K) → value_at eq es k ≡ value_at eq (reverse ps) k)

  -- es was collected from the given pairs, with each value as a borrow of its target.
  abbrev pub CollectsTargets : {V T : Type 0} → (V → T) → (B → T) → List (K × V) → List (K × B) → Type 0
  CollectsTargets target shown xs es = (ps : List (K × B)) × AllZip (λ x p. (p.0 ≡ x.0) × (shown p.1 ≡ target x.1)) xs ps × Collects ps es
