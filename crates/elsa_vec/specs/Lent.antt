-- The content of a vector after its inner vector, borrowed for writing, has been returned to it.
use Rattle.std.specs.Prelude.{List}
use Rattle.std.specs.Borrow.{Fml, RattleType, MutBor, Lends}
use Rattle.std.specs.declared.alloc.Allocator as alloc
use Rattle.elsa_vec.specs.declared.stable.HasTarget as target
use Rattle.std.specs.contracts.vec.Vec.{the_row as vec_row}
use Rattle.elsa_vec.specs.contracts.vec.FrozenVecIn.{the_row}

module _ (R T A B : RattleType) (t : target.Ghosts T.Denot B.Denot) (heap : alloc.Ghosts A.Denot) where
  -- When the borrow r of the inner vector ends, the vector has the items that the inner vector then
  -- has.
  abbrev pub lends_items : MutBor (List B.Denot) → MutBor (vec_row B A heap).Denot → Fml
  lends_items m r = Lends (the_row R T A B heap t) (vec_row B A heap) m r (λ w. w.items)
