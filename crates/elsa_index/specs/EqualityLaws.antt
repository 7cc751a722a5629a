-- The test on sets is an equivalence. The proof is in this file because the impls of `PartialEq`
-- and `Eq` cite it, and they may cite no file of proofs/.
use Rattle.std.specs.Prelude.{Bool, List}
use Rattle.std.specs.Cmp.{IsEquivalence}
use Rattle.std.specs.HashSet.Eq.{hash_set_eq_equiv}
use Rattle.std_collections.specs.Layout.HashSet.{HashSet, hash_set}
use Rattle.elsa_index.specs.Equality.{same_set}

-- A list of values as a set of std, for std's lemmas.
abbrev pub as_set : {B : Type 0} → List B → HashSet B (Unit {0})
as_set bs = hash_set bs (tt {0}) 0

-- The test on sets is an equivalence if the equality of the values is one.
pub same_set_equiv : {B : Type 0} {eq : B → B → Bool} → IsEquivalence eq → IsEquivalence (same_set eq)
same_set_equiv laws = let e = hash_set_eq_equiv laws {S = Unit {0}} in record {
  refl = λ a. e.refl (as_set a);
  symm = λ a b. e.symm (as_set a) (as_set b);
  congr = λ a b c. e.congr (as_set a) (as_set b) (as_set c);
}
