use Rattle.std.proofs.Common.{subst, vec_items}
use Rattle.std.proofs.lemmas.Result.{IfOk-weaker}
use Rattle.elsa_cell.specs.Ordered.{IsBlockGap, joined}
use Rattle.elsa_cell.proofs.OrderLemmas.{at_error, found_first, found_nowhere}
use Rattle.elsa_cell.specs.Queries.{equal_alike}
use Rattle.elsa_cell.proofs.ordered.OrderedIndices.seek.Goals as goal

pub returns-clause-found : goal.returns-clause-found
returns-clause-found g c =
    let keys = g.L.KeyList.keys c.args.keys.now in
    IfOk-weaker c.search.result _ _
    (λ i found. found_first g.K.Ord.cmp g.met.K.Ord.total (g.K.Ord.cmp c.args.key.now) (equal_alike g.met.K.Ord.total c.args.key.now) (joined vec_items c.args.self.now.blocks.items) keys c.requires.ordered i found.0 found.1 found.2) c.search.ensures.found

pub returns-clause-absent : goal.returns-clause-absent
returns-clause-absent g c =
    let keys = g.L.KeyList.keys c.args.keys.now in let against = g.K.Ord.cmp c.args.key.now in
    at_error c.search.result (λ end ends. found_nowhere g.K.Ord.cmp g.met.K.Ord.total against (joined vec_items c.args.self.now.blocks.items) keys _ c.requires.ordered (subst (λ l. IsBlockGap vec_items against l keys end) c.as_slice.ensures.value ends).gap) c.search.ensures.gap
