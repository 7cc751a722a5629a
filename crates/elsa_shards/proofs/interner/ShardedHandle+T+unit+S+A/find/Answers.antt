use Rattle.std.proofs.Common.{◌≡◌, ◌<◌, ◌/◌, Some, length, map, ap, subst, sym, ◌∙◌, arith}
use Rattle.std.proofs.lemmas.Option.{slice_get-get_or}
use Rattle.elsa_lock_free_map.specs.Entries.{IsAt}
use Rattle.elsa_lock_free.specs.SharedList.{items_of}
use Rattle.elsa_shards.proofs.NumberLemmas.{below_seen, on_shard_at}
use Rattle.elsa_shards.proofs.ShardLemmas.{same_vectors_at}
use Rattle.elsa_shards.proofs.interner.ShardedHandle+T+unit+S+A.find.Goals as goal

pub returns-in_default-clause-same_interner : goal.returns-in_default-clause-same_interner
returns-in_default-clause-same_interner g c =
    let items = c.self.inside.handles.items in
    let k = c.shard_index-shard.result in
    let view = c.index_mut-names.result.now in
    let within : k < length items = omega (arith, c.shard_index-shard.ensures.within, ap (λ v. length v.0) c.self.view_is) in
    let at = slice_get-get_or items k view within ∙ ap Some (sym c.index_mut-names.ensures.value) in
    (ap (λ v. v.1) c.self.view_is, same_vectors_at items k view c.find.new.self at c.find.ensures.continues.0.0 ∙ ap (λ v. map (λ w. w.vector) v.0) c.self.view_is)

pub returns-clause-same_interner : goal.returns-clause-same_interner
returns-clause-same_interner g c =
    let items = c.self.inside.handles.items in
    let k = c.shard_index-shard.result in
    let view = c.index_mut-names.result.now in
    let within : k < length items = omega (arith, c.shard_index-shard.ensures.within, ap (λ v. length v.0) c.self.view_is) in
    let at = slice_get-get_or items k view within ∙ ap Some (sym c.index_mut-names.ensures.value) in
    (ap (λ v. v.1) c.self.view_is, same_vectors_at items k view c.find.new.self at c.find.ensures.continues.0.0 ∙ ap (λ v. map (λ w. w.vector) v.0) c.self.view_is)

pub number_of-requires-clause-limits : goal.number_of-requires-clause-limits
number_of-requires-clause-limits g c =
    let has = c.in-Some.ensures.found in
    let below = below_seen c.find.new.self c.in-Some.index has.0 has.1 in
    (omega (arith, c.self.invariant.1, c.len-count.ensures), omega (arith, below, c.seen_len.ensures.length, c.seen_len.ensures.limit))

pub returns-in_default-clause-on_shard : goal.returns-in_default-clause-on_shard
returns-in_default-clause-on_shard g c =
    let items = c.self.inside.handles.items in
    let k = c.shard_index-shard.result in
    let view = c.index_mut-names.result.now in
    let within : k < length items = omega (arith, c.shard_index-shard.ensures.within, ap (λ v. length v.0) c.self.view_is) in
    let at = slice_get-get_or items k view within ∙ ap Some (sym c.index_mut-names.ensures.value) in
    on_shard_at items c.args.self.now.0 k _ view c.find.new.self _ (ap (λ v. v.0) c.self.view_is) c.shard_index-shard.ensures.chosen at (c.find.ensures.continues, tt, c.in_default.ensures.absent)

pub returns-clause-on_shard : goal.returns-clause-on_shard
returns-clause-on_shard g c =
    let items = c.self.inside.handles.items in
    let k = c.shard_index-shard.result in
    let view = c.index_mut-names.result.now in
    let within : k < length items = omega (arith, c.shard_index-shard.ensures.within, ap (λ v. length v.0) c.self.view_is) in
    let at = slice_get-get_or items k view within ∙ ap Some (sym c.index_mut-names.ensures.value) in
    let count_is : c.len-count.result ≡ length c.args.self.now.0 = omega (arith, c.len-count.ensures, ap (λ v. length v.0) c.self.view_is) in
    let index_is = sym c.number_of.ensures.index ∙ ap (λ n. c.number_of.result / n) count_is in
    on_shard_at items c.args.self.now.0 k _ view c.find.new.self _ (ap (λ v. v.0) c.self.view_is) c.shard_index-shard.ensures.chosen at (c.find.ensures.continues, subst (λ i. IsAt g.Q.Equivalent.equivalent (items_of c.find.new.self.seen) i c.args.query) index_is c.in-Some.ensures.found, tt)
