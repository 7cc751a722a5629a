use Rattle.std.proofs.Common.{length, ap, ◌∙◌, arith}
use Rattle.elsa_lock_free.proofs.ListLemmas.Prefix.{prefix_within}
use Rattle.elsa_lock_free.proofs.handle.Handle.len_after.Goals as goal

pub returns-clause-fresh : goal.returns-clause-fresh
returns-clause-fresh g c =
    let read = c.read_length-pass.ensures in let more = prefix_within c.lend.result.seen c.read_length-pass.result.0.seen read.continues.1 in let n = read.length.0 in
    let was = ap (λ w. length w.seen) (c.lend.ensures.same_view ∙ c.self.view_is) in omega (arith, more, n, was)
