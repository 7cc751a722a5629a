use Rattle.elsa_arena.proofs.Bracketed.{splits_list}
use Rattle.elsa_vec.proofs.vec.FrozenVecIn.binary_search.Goals as goal

pub returns-clause-sorted : goal.returns-clause-sorted
returns-clause-sorted g c = splits_list _ _ (λ item. g.T.Borrow.Ord.cmp item c.args.target) (λ i o said. said) _ (rw c.as_slice.ensures at c.binary_search.ensures)
