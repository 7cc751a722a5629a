-- Definitions for an observed history, and for the right to release the lock at it.
use Rattle.std.specs.Prelude.{suc, ◌≡◌, true, List, [], ◌∷◌, ◌++◌}
use Rattle.logbook.specs.declared.tokens.Gained.{Gained}
use Rattle.logbook.specs.declared.tokens.Seen.{Seen}
use Rattle.elsa_lock_free.specs.declared.event.Event.{Event}
use Rattle.elsa_lock_free.specs.declared.event.Event.TheVariants.{Acquired}
use Rattle.elsa_lock_free.specs.declared.tokens.Writer.{Writer}
use Rattle.elsa_lock_free.specs.declared.tokens.Held.{Held}
use Rattle.elsa_lock_free.specs.SharedList.{Vector, View}
use Rattle.elsa_lock_free.specs.History.{is_held, list_of, added}
use Rattle.elsa_lock_free.specs.Rights.{head}

-- two histories of one vector
abbrev pub IsOf : {E L P : Type 0} → Seen E L P → Seen E L P → Type 0
IsOf seen other = (seen.book ≡ other.book) × (seen.names ≡ other.names)

-- what a pass with this history and this writer shows
abbrev pub view_of : {T L P : Type 0} → Seen (Event T) L P → Writer → View T
view_of seen writer = record { vector = (seen.book, seen.names); writer = suc writer.name; seen = list_of seen.log }

-- the history of a vector, as far as a view has observed it
pub record Past (T : Type 0) : Type 0 where
  pub vector : Vector
  pub events : List (Event T)

-- what an acquire gained, and the history that ends with it
abbrev pub IsAtAcquire : {T L G P : Type 0} → Gained (Event T) (List (Event T)) G → Seen (Event T) L P → Type 0
IsAtAcquire right seen = (right.names ≡ seen.names) × (seen.log ≡ right.answer ++ Acquired ∷ [])

-- the right to end the hold in which the history ends
abbrev pub IsHolder : {T L P : Type 0} → Held → Seen (Event T) L P → Type 0
IsHolder held seen = (held.name ≡ head seen.names) × (held.added ≡ added seen.log) × (is_held seen.log ≡ true)
