-- The calls of a map in which the first value of a key stays, as steps from one content to the
-- next. A content is a partial function from keys to values. Each line states which reply is
-- possible, and which content follows.
use Rattle.std.specs.Prelude.{◌≡◌, ◌↔◌, Bool, Option, Some, None, IsTrue}
use Rattle.elsa_tables.specs.FirstWins.{inserted, HasCount}
use Rattle.elsa_history.specs.declared.map_core.MapCommand.{MapCommand}
use Rattle.elsa_history.specs.declared.map_core.MapCommand.TheVariants.{Insert, InsertNew, Get, Len}
use Rattle.elsa_history.specs.declared.map_core.MapReply.{MapReply}
use Rattle.elsa_history.specs.declared.map_core.MapReply.TheVariants.{Value, ValueNew, Found, Count}

-- The command, with this reply, leads from the content `old` to the content `new`.
abbrev pub MapStep : {K V : Type 0} → (K → K → Bool) → (K → Option V) → MapCommand K V → MapReply V → (K → Option V) → Type 0
MapStep eq old (Insert key value) (Value answer) new = (new ≡ inserted eq old key value) × (new key ≡ Some answer)
MapStep eq old (InsertNew key value) (ValueNew answer was_new) new = (new ≡ inserted eq old key value) × (new key ≡ Some answer) × (IsTrue was_new ↔ (old key ≡ None))
MapStep eq old (Get key) (Found answer) new = (new ≡ old) × (answer ≡ old key)
MapStep eq old Len (Count count) new = (new ≡ old) × HasCount eq old count
MapStep eq old _ _ new = ⊥
