use Rattle.std.proofs.Common.{◌<◌, Some, length, map, ap, sym, ◌∙◌, inl, inr, arith}
use Rattle.std.proofs.lemmas.Option.{slice_get-get_or}
use Rattle.std.proofs.lemmas.Result.{IfOk-weaker}
use Rattle.elsa_shards.proofs.ShardLemmas.{same_vectors_at}
use Rattle.elsa_shards.proofs.lock_free.ShardedHandle.insert_by.Goals as goal

pub returns-clause-same_map : goal.returns-clause-same_map
returns-clause-same_map g c =
    let items = c.self.inside.handles.items in
    let k = c.shard_index-index.result in
    let view = c.index_mut.result.now in
    let within : k < length items = omega (arith, c.shard_index-index.ensures.within, ap (λ v. length v.0) c.self.view_is) in
    let at = slice_get-get_or items k view within ∙ ap Some (sym c.index_mut.ensures.value) in
    (ap (λ v. v.1) c.self.view_is, same_vectors_at items k view c.insert_by.new.self at c.insert_by.ensures.later.0.0 ∙ ap (λ v. map (λ w. w.vector) v.0) c.self.view_is)

-- A made key is one that the query finds, so the query finds the stored key that equals it.
pub returns-clause-holds : goal.returns-clause-holds
returns-clause-holds g c =
    IfOk-weaker c.insert_by.result _ _ (λ r held. elim held [
      | inl found ↦ found
      | inr made ↦ (made.3.0, g.met.Q.Equivalent.respects_eq c.args.query made.0 made.3.0 (c.requires.key made.0 made.1 made.2) ∙ made.3.1, made.3.2)
    ]) c.insert_by.ensures.holds
