-- When two index sets are equal: their order doesn't matter. The test that the code computes comes
-- first, then the fact that it decides. A reader should rely on that fact.
use Rattle.std.specs.Prelude.{◌≡◌, Bool, ◌&&◌, List}
use Rattle.std.specs.List.{list_all}
use Rattle.std.specs.Set.{is_member}

module _ {B : Type 0} (eq : B → B → Bool) where
  -- Each list has each value of the other.
  abbrev pub same_set : List B → List B → Bool
  same_set bs cs = list_all (is_member eq cs) bs && list_all (is_member eq bs) cs

  -- A value is in both lists or in neither.
  abbrev pub HaveSameValues : List B → List B → Type 0
  HaveSameValues bs cs = (q : B) → is_member eq bs q ≡ is_member eq cs q
