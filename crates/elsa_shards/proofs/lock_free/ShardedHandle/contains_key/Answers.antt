use Rattle.std.proofs.Common.{◌<◌, Some, length, map, ap, sym, ◌∙◌, arith}
use Rattle.std.proofs.lemmas.Option.{slice_get-get_or}
use Rattle.elsa_shards.proofs.ShardLemmas.{same_vectors_at}
use Rattle.elsa_shards.proofs.lock_free.ShardedHandle.contains_key.Goals as goal

pub returns-clause-same_map : goal.returns-clause-same_map
returns-clause-same_map g c =
    let items = c.self.inside.handles.items in
    let k = c.shard_index-index.result in
    let view = c.index_mut.result.now in
    let within : k < length items = omega (arith, c.shard_index-index.ensures.within, ap (λ v. length v.0) c.self.view_is) in
    let at = slice_get-get_or items k view within ∙ ap Some (sym c.index_mut.ensures.value) in
    (ap (λ v. v.1) c.self.view_is, same_vectors_at items k view c.contains_key.new.self at c.contains_key.ensures.continues.0.0 ∙ ap (λ v. map (λ w. w.vector) v.0) c.self.view_is)
