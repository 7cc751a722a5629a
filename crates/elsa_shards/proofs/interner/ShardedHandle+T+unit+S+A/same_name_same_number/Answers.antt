use Rattle.std.proofs.Common.{◌<◌, Some, length, map, ap, sym, ◌∙◌, arith}
use Rattle.std.proofs.lemmas.Option.{slice_get-get_or}
use Rattle.elsa_shards.proofs.MeetLemmas.{same_length}
use Rattle.elsa_shards.proofs.NumberLemmas.{agree_more, vectors_at}
use Rattle.elsa_shards.proofs.interner.ShardedHandle+T+unit+S+A.same_name_same_number.Goals as goal

pub same_index-requires : goal.same_index-requires
same_index-requires g c =
    let one = c.self.inside.handles.items in
    let two = c.other.inside.handles.items in
    let k = c.loop-index.index in
    let a = c.index.result.now in
    let b = c.index-in-loop-index.result.now in
    let same = ap (λ view. map (λ v. v.vector) view.0) c.other.view_is ∙ c.requires.same_interner.1 ∙ sym (ap (λ view. map (λ v. v.vector) view.0) c.self.view_is) in
    let within : k < length one = omega (arith, c.loop-index-test.true, c.len-index-end.ensures) in
    let within_two : k < length two = omega (arith, within, same_length two one same) in
    let at = slice_get-get_or one k a within ∙ ap Some (sym c.index.ensures) in
    let at_two = slice_get-get_or two k b within_two ∙ ap Some (sym c.index-in-loop-index.ensures) in
    record { same_vector = vectors_at one two k a b same at at_two }

pub loop-index-preserved : goal.loop-index-preserved
loop-index-preserved g c =
    let one = c.self.inside.handles.items in
    let two = c.other.inside.handles.items in
    let k = c.loop-index.index in
    let a = c.index.result.now in
    let b = c.index-in-loop-index.result.now in
    let same = ap (λ view. map (λ v. v.vector) view.0) c.other.view_is ∙ c.requires.same_interner.1 ∙ sym (ap (λ view. map (λ v. v.vector) view.0) c.self.view_is) in
    let within : k < length one = omega (arith, c.loop-index-test.true, c.len-index-end.ensures) in
    let within_two : k < length two = omega (arith, within, same_length two one same) in
    let at = slice_get-get_or one k a within ∙ ap Some (sym c.index.ensures) in
    let at_two = slice_get-get_or two k b within_two ∙ ap Some (sym c.index-in-loop-index.ensures) in
    agree_more g.T.PartialEq.eq k one two a b c.loop-index.invariant at at_two c.same_index.ensures.index
