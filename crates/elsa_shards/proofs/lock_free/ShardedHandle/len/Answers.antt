use Rattle.std.proofs.Common.{length, map, ap, sym, subst, ◌∙◌, drop, get_or, arith}
use Rattle.std.proofs.lemmas.List.{take_at}
use Rattle.std.proofs.lemmas.Option.{slice_get-get_or}
use Rattle.elsa_shards.proofs.ShardLemmas.{continues_at, same_vectors_of}
use Rattle.elsa_shards.specs.Shards.{AllContinue}
use Rattle.elsa_shards.proofs.lock_free.ShardedHandle.len.Goals as goal

pub loop-handle-preserved : goal.loop-handle-preserved
loop-handle-preserved g c =
    let items = c.loop-handle.handle-items in
    let view = get_or items c.loop-handle.handle-index c.handle-item.result in
    let at = slice_get-get_or items c.loop-handle.handle-index c.handle-item.result (omega (arith, c.loop-handle-test.true)) in
    continues_at c.deref_mut-handle-items.result.now items c.loop-handle.handle-index view c.len.new.self c.loop-handle.invariant at c.len.ensures.continues

pub returns-clause-continues : goal.returns-clause-continues
returns-clause-continues g c =
    let items = c.loop-handle.handle-items in
    let first = c.deref_mut-handle-items.ensures.value ∙ ap (λ view. view.0) c.self.view_is in
    let same = take_at items (drop (length items) c.self.inside.handles.items) c.self.inside.handles.len (omega (arith, c.loop-handle.invariant.0, c.deref_mut-handle-items.ensures.len)) in
    subst (λ views. AllContinue c.args.self.now.0 views) (sym same) (subst (λ views. AllContinue views items) first c.loop-handle.invariant)

pub returns-clause-same_map : goal.returns-clause-same_map
returns-clause-same_map g c =
    let items = c.loop-handle.handle-items in
    let first = c.deref_mut-handle-items.ensures.value ∙ ap (λ view. view.0) c.self.view_is in
    let same = take_at items (drop (length items) c.self.inside.handles.items) c.self.inside.handles.len (omega (arith, c.loop-handle.invariant.0, c.deref_mut-handle-items.ensures.len)) in
    (ap (λ view. view.1) c.self.view_is, ap (map (λ v. v.vector)) same ∙ same_vectors_of c.deref_mut-handle-items.result.now items c.loop-handle.invariant ∙ ap (map (λ v. v.vector)) first)
