-- What a call that inserts the items of an iterator took of it.
use Rattle.std.specs.Prelude.{ℕ, ◌≡◌, ◌⊎◌, ◌++◌, List, Option, None, Some, Result, MatchResult, length}
use Rattle.std.specs.Iterator.{Drains, YieldsThen}
use Rattle.elsa_arena.specs.Faults.{Refuses}
use Rattle.elsa_arena.specs.declared.fault.CellFault.{CellFault}
use Rattle.elsa_arena.specs.declared.fault.CellFault.TheVariants.{Memory, InUse, Full}

module _ {U S X : Type 0} (becomes : U → S → Type 0) (steps : S → Option X → S → Type 0) where
  -- A list, which can have `most` items, was `old`, and `new` has the items of the iterator after
  -- them: all, or those before the one that the fault has.
  abbrev pub AppendsAll : ℕ → U → List X → List X → Result (Unit {0}) (CellFault X) → Type 0
  AppendsAll most from old new result = (it : S) × (xs : List X) × becomes from it × (new ≡ old ++ xs)
      × MatchResult result (λ _. Drains steps it xs) (λ f. (x : X) × (u : S) × YieldsThen steps it xs (Some x) u × Refuses most (length new) x f)

  -- All items of the iterator were taken, or those up to the one whose value the fault has, or none.
  abbrev pub TakesAll : {Y : Type 0} → (X → Y) → U → Result (Unit {0}) (CellFault (Option Y)) → Type 0
  TakesAll value from result = MatchResult result (λ _. (it : S) × (xs : List X) × becomes from it × Drains steps it xs)
      (λ f. (f ≡ InUse None) ⊎ ((it : S) × (xs : List X) × (x : X) × (u : S) × becomes from it × YieldsThen steps it xs (Some x) u
      × ((f ≡ Memory (Some (value x))) ⊎ (f ≡ Full (Some (value x))))))
