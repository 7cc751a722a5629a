-- What `extend` inserts into a map.
use Rattle.std.specs.Prelude.{◌≡◌, ◌++◌, ◌-◌, ◌^◌, Bool, List, Option, None, Some, Result, MatchResult, length, map}
use Rattle.std.specs.Iterator.{Drains, YieldsThen}
use Rattle.std.specs.Map.{lookup}
use Rattle.elsa_arena.specs.Faults.{Refuses}
use Rattle.elsa_arena.specs.declared.fault.CellFault.{CellFault}
use Rattle.elsa_cell.specs.Entries.{key_of, pairs_of}
use Rattle.elsa_cell.specs.declared.map.Entry.{Entry}
use Rattle.elsa_tables.specs.Insertions.{first_of_each}

-- `new` has the entries of `old`, and then an entry for the first pair of each new key, in the order
-- of the pairs.
abbrev pub AppendsFirsts : {K V : Type 0} → (K → K → Bool) → List (Entry K V) → List (K × V) → List (Entry K V) → Type 0
AppendsFirsts equal old pairs new = pairs_of new ≡ pairs_of old ++ first_of_each equal (λ p. p.0) (map key_of old) pairs

module _ {S K V : Type 0} (steps : S → Option (K × V) → S → Type 0) where
  -- Each pair that may come from the iterator obeys the rule.
  abbrev pub YieldsHolding : (K → V → Type 0) → S → Type 0
  YieldsHolding holds it = (xs : List (K × V)) (k : K) (v : V) (after : S) → YieldsThen steps it xs (Some (k, v)) after → holds k v

  -- Pairs of the iterator were inserted: all, or those before the first that was not inserted. Its
  -- key is absent, and the fault has its value.
  abbrev pub ExtendsByFirsts : {U : Type 0} → (U → S → Type 0) → (K → K → Bool) → U → List (Entry K V) → List (Entry K V) → Result (Unit {0}) (CellFault V) → Type 0
  ExtendsByFirsts becomes equal from old new result = (it : S) × (xs : List (K × V)) × becomes from it × AppendsFirsts equal old xs new
      × MatchResult result (λ _. Drains steps it xs) (λ f. (k : K) × (v : V) × (after : S) × YieldsThen steps it xs (Some (k, v)) after
      × (lookup (equal k) (pairs_of new) ≡ None) × Refuses (2 ^ 32 - 1) (length new) v f)
