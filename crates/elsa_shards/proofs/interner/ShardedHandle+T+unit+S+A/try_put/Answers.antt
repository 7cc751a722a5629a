use Rattle.std.proofs.Common.{◌≡◌, ◌<◌, ◌/◌, Some, length, map, ap, subst, sym, ◌∙◌, arith}
use Rattle.std.proofs.lemmas.Option.{slice_get-get_or}
use Rattle.elsa_lock_free_map.specs.Entries.{InsertsAt}
use Rattle.elsa_shards.proofs.NumberLemmas.{below_seen, on_shard_at}
use Rattle.elsa_shards.proofs.ShardLemmas.{same_vectors_at}
use Rattle.elsa_shards.proofs.interner.ShardedHandle+T+unit+S+A.try_put.Goals as goal

pub returns-in-Err-clause-same_interner : goal.returns-in-Err-clause-same_interner
returns-in-Err-clause-same_interner g c =
    let items = c.self.inside.handles.items in
    let k = c.shard_index-chosen.result in
    let view = c.index_mut-names.result.now in
    let within : k < length items = omega (arith, c.shard_index-chosen.ensures.within, ap (λ v. length v.0) c.self.view_is) in
    let at = slice_get-get_or items k view within ∙ ap Some (sym c.index_mut-names.ensures.value) in
    (ap (λ v. v.1) c.self.view_is, same_vectors_at items k view c.try_put.new.self at c.try_put.ensures.later.0.0 ∙ ap (λ v. map (λ w. w.vector) v.0) c.self.view_is)

pub returns-clause-same_interner : goal.returns-clause-same_interner
returns-clause-same_interner g c =
    let items = c.self.inside.handles.items in
    let k = c.shard_index-chosen.result in
    let view = c.index_mut-names.result.now in
    let within : k < length items = omega (arith, c.shard_index-chosen.ensures.within, ap (λ v. length v.0) c.self.view_is) in
    let at = slice_get-get_or items k view within ∙ ap Some (sym c.index_mut-names.ensures.value) in
    (ap (λ v. v.1) c.self.view_is, same_vectors_at items k view c.try_put.new.self at c.try_put.ensures.later.0.0 ∙ ap (λ v. map (λ w. w.vector) v.0) c.self.view_is)

pub number_of-requires-clause-limits : goal.number_of-requires-clause-limits
number_of-requires-clause-limits g c =
    let has = c.in-Ok.ensures.numbered.0.2.0 in
    let below = below_seen c.try_put.new.self c.in-Ok.index has.0 has.1 in
    (omega (arith, c.self.invariant.1, c.len-count.ensures), omega (arith, below, c.seen_len.ensures.length, c.seen_len.ensures.limit))

pub returns-in-Err-clause-on_shard : goal.returns-in-Err-clause-on_shard
returns-in-Err-clause-on_shard g c =
    let items = c.self.inside.handles.items in
    let k = c.shard_index-chosen.result in
    let view = c.index_mut-names.result.now in
    let within : k < length items = omega (arith, c.shard_index-chosen.ensures.within, ap (λ v. length v.0) c.self.view_is) in
    let at = slice_get-get_or items k view within ∙ ap Some (sym c.index_mut-names.ensures.value) in
    on_shard_at items c.args.self.now.0 k _ view c.try_put.new.self _ (ap (λ v. v.0) c.self.view_is) c.shard_index-chosen.ensures.chosen at (c.try_put.ensures.later, c.try_put.ensures.one_to_one, tt, c.in-Err.ensures.refused.0, c.in-Err.ensures.only_new)

pub returns-clause-on_shard : goal.returns-clause-on_shard
returns-clause-on_shard g c =
    let items = c.self.inside.handles.items in
    let k = c.shard_index-chosen.result in
    let view = c.index_mut-names.result.now in
    let within : k < length items = omega (arith, c.shard_index-chosen.ensures.within, ap (λ v. length v.0) c.self.view_is) in
    let at = slice_get-get_or items k view within ∙ ap Some (sym c.index_mut-names.ensures.value) in
    let count_is : c.len-count.result ≡ length c.args.self.now.0 = omega (arith, c.len-count.ensures, ap (λ v. length v.0) c.self.view_is) in
    let index_is = sym c.number_of.ensures.index ∙ ap (λ n. c.number_of.result / n) count_is in
    on_shard_at items c.args.self.now.0 k _ view c.try_put.new.self _ (ap (λ v. v.0) c.self.view_is) c.shard_index-chosen.ensures.chosen at (c.try_put.ensures.later, c.try_put.ensures.one_to_one, subst (InsertsAt g.T.PartialEq.eq view c.try_put.new.self c.args.name) index_is c.in-Ok.ensures.numbered.0, tt, tt)
