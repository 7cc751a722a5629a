use Rattle.std.proofs.Common.{◌<◌, Some, length, map, ap, subst, sym, ◌∙◌, arith}
use Rattle.std.proofs.lemmas.Option.{slice_get-get_or}
use Rattle.elsa_shards.proofs.MeetLemmas.{meet_at, meet_at_last, same_length, same_vector_at}
use Rattle.elsa_shards.proofs.ShardLemmas.{same_vectors_at}
use Rattle.elsa_shards.specs.Shards.{AllMeet}
use Rattle.elsa_shards.proofs.lock_free.ShardedHandle.meet.Goals as goal

pub meet-requires : goal.meet-requires
meet-requires g c =
    let one = c.loop-index.self-inside.handles.items in
    let two = c.loop-index.other-inside.handles.items in
    let k = c.loop-index.index in
    let a = c.index_mut.result.now in
    let b = c.index_mut-in-loop-index.result.now in
    let within : k < length one = omega (arith, c.loop-index-test.true, c.len-index-end.ensures, c.loop-index.invariant.2.0.0) in
    let same = ap (λ view. map (λ v. v.vector) view.0) c.self.view_is ∙ c.requires.same_vectors ∙ sym (ap (λ view. map (λ v. v.vector) view.0) c.other.view_is) in
    let within_two : k < length two = omega (arith, c.loop-index-test.true, c.len-index-end.ensures, c.loop-index.invariant.2.0.1, same_length c.self.inside.handles.items c.other.inside.handles.items same) in
    let at = slice_get-get_or one k a within ∙ ap Some (sym c.index_mut.ensures.value) in
    let at_two = slice_get-get_or two k b within_two ∙ ap Some (sym c.index_mut-in-loop-index.ensures.value) in
    record { same_vector = same_vector_at k c.self.inside.handles.items one c.other.inside.handles.items two a b same c.loop-index.invariant.2 at at_two }

pub loop-index-preserved : goal.loop-index-preserved
loop-index-preserved g c =
    let one = c.loop-index.self-inside.handles.items in
    let two = c.loop-index.other-inside.handles.items in
    let k = c.loop-index.index in
    let a = c.index_mut.result.now in
    let b = c.index_mut-in-loop-index.result.now in
    let within : k < length one = omega (arith, c.loop-index-test.true, c.len-index-end.ensures, c.loop-index.invariant.2.0.0) in
    let same = ap (λ view. map (λ v. v.vector) view.0) c.self.view_is ∙ c.requires.same_vectors ∙ sym (ap (λ view. map (λ v. v.vector) view.0) c.other.view_is) in
    let within_two : k < length two = omega (arith, c.loop-index-test.true, c.len-index-end.ensures, c.loop-index.invariant.2.0.1, same_length c.self.inside.handles.items c.other.inside.handles.items same) in
    let at = slice_get-get_or one k a within ∙ ap Some (sym c.index_mut.ensures.value) in
    let at_two = slice_get-get_or two k b within_two ∙ ap Some (sym c.index_mut-in-loop-index.ensures.value) in
    let vectors = same_vectors_at one k a c.meet.new.self at c.meet.ensures.0.0.0.0 ∙ c.loop-index.invariant.1.0 in
    let vectors_two = same_vectors_at two k b c.meet.new.other at_two c.meet.ensures.0.1.0.0 ∙ c.loop-index.invariant.1.1 in
    (c.loop-index.invariant.0, (vectors, vectors_two), meet_at k c.self.inside.handles.items one c.other.inside.handles.items two a c.meet.new.self b c.meet.new.other c.loop-index.invariant.2 at at_two c.meet.ensures)

pub returns-clause-same_map : goal.returns-clause-same_map
returns-clause-same_map g c = (
  (c.loop-index.invariant.0.0 ∙ ap (λ view. view.1) c.self.view_is, c.loop-index.invariant.1.0 ∙ ap (λ view. map (λ v. v.vector) view.0) c.self.view_is),
  (c.loop-index.invariant.0.1 ∙ ap (λ view. view.1) c.other.view_is, c.loop-index.invariant.1.1 ∙ ap (λ view. map (λ v. v.vector) view.0) c.other.view_is),
)

pub returns-clause-met : goal.returns-clause-met
returns-clause-met g c =
    let one = c.loop-index.self-inside.handles.items in
    let two = c.loop-index.other-inside.handles.items in
    let met = meet_at_last c.loop-index.index c.self.inside.handles.items one c.other.inside.handles.items two (omega (arith, c.loop-index-test.false, c.len-index-end.ensures)) c.loop-index.invariant.2 in
    subst (λ views. AllMeet views one c.args.other.now.0 two) (ap (λ view. view.0) c.self.view_is) (subst (λ views. AllMeet c.self.inside.handles.items one views two) (ap (λ view. view.0) c.other.view_is) met)
