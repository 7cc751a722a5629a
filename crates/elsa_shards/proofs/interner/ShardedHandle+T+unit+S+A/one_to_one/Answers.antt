use Rattle.std.proofs.Common.{◌<◌, Some, length, ap, sym, ◌∙◌, arith}
use Rattle.std.proofs.lemmas.Option.{slice_get-get_or}
use Rattle.elsa_shards.proofs.NumberLemmas.{agree_more}
use Rattle.elsa_shards.proofs.interner.ShardedHandle+T+unit+S+A.one_to_one.Goals as goal

pub loop-index-preserved : goal.loop-index-preserved
loop-index-preserved g c =
    let one = c.self.inside.handles.items in
    let k = c.loop-index.index in
    let a = c.index.result.now in
    let within : k < length one = omega (arith, c.loop-index-test.true, c.len-index-end.ensures) in
    let at = slice_get-get_or one k a within ∙ ap Some (sym c.index.ensures) in
    agree_more g.T.PartialEq.eq k one one a a c.loop-index.invariant at at c.one_to_one.ensures
