use Rattle.std.proofs.Common.{Some, None}
use Rattle.elsa_locks.proofs.Shared.{found_shown}
use Rattle.elsa_locks.proofs.map.state.find.Goals as goal

pub returns-in-Some : goal.returns-in-Some
returns-in-Some g c =
    found_shown (g.Q.Seeks.finds c.args.query) (g.T.Table.entries c.args.table.now) (Some c.in-Some.owner) c.in-Some.ensures.value

pub returns-in-None : goal.returns-in-None
returns-in-None g c =
    found_shown (g.Q.Seeks.finds c.args.query) (g.T.Table.entries c.args.table.now) None c.in-None.ensures.value
