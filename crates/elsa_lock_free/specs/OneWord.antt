-- The state word of a vector, and the fact that a thread learns by each atomic step on it.
-- The state word is twice the length of the shared list, plus 1 while a thread has the lock.
use Rattle.std.specs.Prelude.{ℕ, ◌≡◌, ◌<◌, ◌^◌, ◌==◌, true, false, List, [], ◌∷◌, ◌++◌, length, MatchBool, Some}
use mathlib.Core.List.{IsPrefix}
use Rattle.logbook.specs.Pages.{Cell, Step, View, Book, Named}
use Rattle.elsa_lock_free.specs.declared.event.Entry.{Entry}
use Rattle.elsa_lock_free.specs.declared.event.Event.{Event}
use Rattle.elsa_lock_free.specs.AtomicSteps as atomic
use Rattle.elsa_lock_free.specs.Distinct.{EachIsNew}
use Rattle.elsa_lock_free.specs.History.{list_of, is_held, shared_by}
use Rattle.elsa_lock_free.specs.Rights.{IsStep}

-- the vector's word is the first of its book
abbrev pub word_in : Book → Named
word_in b = record { tracked = true; key = 0; book = b }

-- A history that the rule allows: steps of the rule lead to it from the empty history, at which the maker of the vector
-- has the lock.
pub data IsMade {T : Type 0} : List (Event T) → Type 0 where
  begins : IsMade []
  steps : (event : Event T) (before answer : List (Event T)) {after : List (Event T)} → IsMade before → IsStep event before after answer → IsMade after

module _ {T : Type 0} where
  -- the word that a history leaves
  abbrev pub word_of : List (Event T) → ℕ
  word_of log = atomic.word_of (shared_by log)

  -- the rule: the state word has the length of the list and whether a thread has the lock; a second word, which no
  -- thread uses, stays 0. Each entry of the list was new to those before it, by the vector's rule for items. The history
  -- was made by the rule's own steps
  pub record IsKept (is_new : List (Entry T) → Entry T → Type 0) (cells : List Cell) (log : List (Event T)) : Type 0 where
    pub words : cells ≡ (word_of log, true) ∷ (0, true) ∷ []
    pub small : length (list_of log) < 2 ^ 62
    pub each_is_new : EachIsNew is_new (list_of log)
    pub made : IsMade log

  -- a read of the word: the history so far was seen
  abbrev pub Sees : Step (Event T) → View (Event T) (List (Event T)) → ℕ → View (Event T) (List (Event T)) → Type 0
  Sees s v found w = word_of w.0 ≡ found

  -- and the read has its result
  abbrev pub Reads : Step (Event T) → View (Event T) (List (Event T)) → ℕ → View (Event T) (List (Event T)) → Type 0
  Reads s v found w = (word_of w.0 ≡ found) × (w.1.1 ≡ Some w.0) × (length (list_of w.0) < 2 ^ 62)

  -- where the word was as expected, this thread holds; else nothing is known but the history
  abbrev pub Acquires : Step (Event T) → View (Event T) (List (Event T)) → ℕ → View (Event T) (List (Event T)) → Type 0
  Acquires s v found w = MatchBool (found == s.old)
      ((log : List (Event T)) × (w.0 ≡ log ++ s.ask ∷ []) × (w.1.1 ≡ Some log) × (word_of log ≡ found) × (is_held log ≡ false) × (length (list_of log) < 2 ^ 62))
      (word_of w.0 ≡ found)

  -- the event was added to the history that was there, if the word was as expected
  abbrev pub EndsHold : Step (Event T) → View (Event T) (List (Event T)) → ℕ → View (Event T) (List (Event T)) → Type 0
  EndsHold s v found w = (log : List (Event T)) × IsPrefix v.0 log × (word_of log ≡ found) × (w.1.1 ≡ Some log) × MatchBool (found == s.old) (w.0 ≡ log ++ s.ask ∷ []) (w.0 ≡ log)
