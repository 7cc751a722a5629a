-- The content of an index set after its inner set, borrowed for writing, has been returned to it.
use Rattle.std.specs.Prelude.{List}
use Rattle.std.specs.Borrow.{Fml, RattleType, MutBor, Lends}
use Rattle.std.specs.HashMap.Lent.{HashMembers}
use Rattle.std.specs.declared.alloc.Allocator as alloc
use Rattle.std.specs.declared.hash.Hasher as hasher
use Rattle.std.specs.declared.hash.BuildHasher as builder
use Rattle.elsa_vec.specs.declared.stable.HasTarget as target
use Rattle.indexmap.specs.contracts.set.IndexSet.{the_row as inner_set_row}
use Rattle.elsa_index.specs.contracts.index_set.FrozenIndexSetIn.{the_row as set_row}

module _ (R T S A B H : RattleType) (value : HashMembers B.Denot) (t : target.Ghosts T.Denot B.Denot) (b : builder.Ghosts S.Denot H.Denot) (h : hasher.Ghosts H.Denot) (heap : alloc.Ghosts A.Denot) where
  -- The type of the inner set.
  abbrev pub inner_set : RattleType
  inner_set = inner_set_row B S A H (record { eq = value.eq }) (record { hash_input = value.hash_input }) b h heap

  -- When the borrow r of the inner set ends, the set has the values that the inner set then has.
  abbrev pub lends_values : MutBor (List B.Denot) → MutBor inner_set.Denot → Fml
  lends_values m r = Lends (set_row R T S A H B b h heap t (record { eq = value.eq }) (record { hash_input = value.hash_input })) inner_set m r (λ w. w.keys)
