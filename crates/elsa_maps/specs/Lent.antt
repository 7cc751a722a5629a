-- What a map ends as, once the mutable borrow of its inner one has ended.
use Rattle.std.specs.Prelude.{List}
use Rattle.std.specs.Borrow.{Fml, RattleType, MutBor, Lends}
use Rattle.std.specs.declared.alloc.Allocator as alloc
use Rattle.elsa_vec.specs.declared.stable.HasTarget as target
use Rattle.elsa_tables.specs.declared.table.Table as table
use Rattle.elsa_maps.specs.contracts.map.frozen.Frozen.{the_row}

module _ (R K V T A B : RattleType) (t : target.Ghosts V.Denot B.Denot) (inner : table.Ghosts T.Denot K.Denot B.Denot) (heap : alloc.Ghosts A.Denot) where
  -- When the borrow r of the inner map ends, the map has the entries that the inner map then has.
  abbrev pub lends_table : MutBor (List (K.Denot × B.Denot)) → MutBor T.Denot → Fml
  lends_table m r = Lends (the_row R K V T A B heap t inner) T m r inner.entries
