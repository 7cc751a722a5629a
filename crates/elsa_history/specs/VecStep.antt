-- The calls of a list that only grows, as steps from one list to the next. Each line states which
-- reply is possible for a list, and which list follows.
use Rattle.std.specs.Prelude.{◌≡◌, List, [], ◌∷◌, ◌++◌, length, slice_get}
use Rattle.elsa_history.specs.declared.vec_core.VecCommand.{VecCommand}
use Rattle.elsa_history.specs.declared.vec_core.VecCommand.TheVariants.{Push, Get, Len}
use Rattle.elsa_history.specs.declared.vec_core.VecReply.{VecReply}
use Rattle.elsa_history.specs.declared.vec_core.VecReply.TheVariants.{Place, Found, Count}

-- The command, with this reply, leads from the list `old` to the list `new`.
abbrev pub VecStep : {V : Type 0} → List V → VecCommand V → VecReply V → List V → Type 0
VecStep old (Push value) (Place index) new = (new ≡ old ++ value ∷ []) × (index ≡ length old)
VecStep old (Get index) (Found answer) new = (new ≡ old) × (answer ≡ slice_get old index)
VecStep old Len (Count count) new = (new ≡ old) × (count ≡ length old)
VecStep old _ _ new = ⊥
