use Rattle.std.proofs.Common.{sym, subst, vec_items}
use Rattle.elsa_cell.specs.Ordered.{IsBlockGap, joined}
use Rattle.elsa_cell.proofs.OrderLemmas.{found_first, found_nowhere}
use Rattle.elsa_cell.proofs.ordered.AnySeeksOrdered.seek.Goals as goal

pub returns-in-Ok : goal.returns-in-Ok
returns-in-Ok g c =
    let found = c.in-Ok.ensures.found in
    sym (found_first g.K.Ord.cmp g.met.K.Ord.total (g.Q.OrderQuery.against c.args.self) (g.met.Q.OrderQuery.alike c.args.self) (joined vec_items c.args.table.now.blocks.items) (g.L.KeyList.keys c.args.keys.now) c.requires.ordered c.in-Ok.index found.0 found.1 found.2)

pub returns-in-Err : goal.returns-in-Err
returns-in-Err g c =
    let against = g.Q.OrderQuery.against c.args.self in let keys = g.L.KeyList.keys c.args.keys.now in
    sym (found_nowhere g.K.Ord.cmp g.met.K.Ord.total against (joined vec_items c.args.table.now.blocks.items) keys _ c.requires.ordered
    (subst (λ l. IsBlockGap vec_items against l keys c.in-Err.field-0) c.as_slice.ensures.value c.in-Err.ensures.gap).gap)
