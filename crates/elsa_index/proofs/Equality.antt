-- What the test of specs/Equality decides.
use Rattle.std.specs.Prelude.{Bool, List, Decides}
use Rattle.std.specs.Cmp.{IsEquivalence}
use Rattle.std.specs.HashSet.Eq.{hash_set_eq_decides}
use Rattle.elsa_index.specs.Equality.{same_set, HaveSameValues}
use Rattle.elsa_index.specs.EqualityLaws.{as_set}

-- The test decides whether each value is in both lists or in neither.
pub same_set_decides : {B : Type 0} {eq : B → B → Bool} (laws : IsEquivalence eq) (bs cs : List B) → Decides (same_set eq bs cs) (HaveSameValues eq bs cs)
same_set_decides laws bs cs = hash_set_eq_decides laws (as_set bs) (as_set cs)
