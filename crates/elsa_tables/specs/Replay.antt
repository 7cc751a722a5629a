-- Calls one after the other, and when a single thread that calls a sequential object could have
-- made them. No definition here mentions threads, locks or memory: calls are legal from a state if
-- each reply is one that the object may return in the state after the calls before it.
use Rattle.std.specs.Prelude.{◌≡◌, ℕ, List, [], ◌∷◌, map, Some, slice_get}

-- The commands, in order, lead from the state `from` to the state `to`: each is a step of the
-- object with the reply at its own index.
abbrev pub Answered : {S C R : Type 0} → (S → C → R → S → Type 0) → S → List C → List R → S → Type 0
Answered step from [] [] to = from ≡ to
Answered {S} step from (command ∷ later) (reply ∷ rest) to = (next : S) × step from command reply next × Answered step next later rest to
Answered step from commands replies to = ⊥

-- The calls of a history lead from `from` to `to`. An entry of a history is the caller's number,
-- the command and the reply.
abbrev pub Replays : {S C R : Type 0} → (S → C → R → S → Type 0) → S → List (ℕ × C × R) → S → Type 0
Replays step from history to = Answered step from (map (λ entry. entry.1) history) (map (λ entry. entry.2) history) to

-- A history that is legal from the state `from` has the entry at `index`.
abbrev pub IsRecorded : {S C R : Type 0} → (S → C → R → S → Type 0) → S → ℕ → ℕ × C × R → Type 0
IsRecorded {S} {C} {R} step from index entry = (history : List (ℕ × C × R)) × (to : S) × Replays step from history to × (slice_get history index ≡ Some entry)
