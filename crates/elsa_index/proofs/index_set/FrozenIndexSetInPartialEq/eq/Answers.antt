use Rattle.std.proofs.Common.{◌∙◌, rules}
use Rattle.elsa_index.proofs.Equality.{same_set_decides}
use Rattle.elsa_index.proofs.Laws.{same_set_in_any_order}
use Rattle.elsa_index.proofs.index_set.FrozenIndexSetInPartialEq.eq.Goals as goal

pub returns-clause-decides : goal.returns-clause-decides
returns-clause-decides g c = search rules

pub returns-clause-as_sets : goal.returns-clause-as_sets
returns-clause-as_sets g c = rw (returns-clause-decides g c) (same_set_decides g.met.T.Borrow.Eq.laws c.args.self.now c.args.other.now)

pub returns-clause-blind_to_order : goal.returns-clause-blind_to_order
returns-clause-blind_to_order g c = λ moved. returns-clause-decides g c ∙ same_set_in_any_order g.T.Borrow.PartialEq.eq g.met.T.Borrow.Eq.laws _ _ moved
