use Rattle.std.proofs.Common.{◌≡◌, rules}
use Rattle.elsa_index.proofs.Laws.{set_index_added}
use Rattle.elsa_index.proofs.index_set.FrozenIndexSetIn.insert_absent.Goals as goal

-- Reserving capacity left the values unchanged.
pub returns-clause-index_after : goal.returns-clause-index_after
returns-clause-index_after g c =
    let kept : c.reserve.new.self.keys ≡ c.args.self.now = (search rules) in
    set_index_added g.T.Borrow.PartialEq.eq g.met.T.Borrow.Eq.laws g.T.HasTarget.target g.T.HasTarget.shown g.T.LookUp.finds g.met.T.LookUp.finds_target _ _ _ _ _ _ kept c.requires.absent c.in_ok-index.ensures.index (search rules) c.in_ok-index.ensures.appended
