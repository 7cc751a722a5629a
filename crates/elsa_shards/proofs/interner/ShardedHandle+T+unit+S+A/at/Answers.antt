use Rattle.std.proofs.Common.{◌≡◌, ◌<◌, ◌/◌, ◌%◌, Some, length, map, slice_get, ap, sym, ◌∙◌, arith}
use Rattle.std.proofs.lemmas.Nat.{mod_below}
use Rattle.std.proofs.lemmas.Option.{slice_get-get_or}
use Rattle.elsa_lock_free.specs.SharedList.{items_of}
use Rattle.elsa_hash_index.specs.Entries.{keys_of}
use Rattle.elsa_shards.proofs.NumberLemmas.{on_shard_at}
use Rattle.elsa_shards.proofs.ShardLemmas.{same_vectors_at}
use Rattle.elsa_shards.proofs.interner.ShardedHandle+T+unit+S+A.at.Goals as goal

pub returns-clause-same_interner : goal.returns-clause-same_interner
returns-clause-same_interner g c =
    let items = c.self.inside.handles.items in
    let k = c.args.number % c.len-count.result in
    let view = c.index_mut.result.now in
    let within : k < length items = omega (arith, c.len-count.ensures, mod_below c.args.number c.len-count.result (omega (arith, c.len-count.ensures, c.self.invariant.0))) in
    let at = slice_get-get_or items k view within ∙ ap Some (sym c.index_mut.ensures.value) in
    (ap (λ v. v.1) c.self.view_is, same_vectors_at items k view c.at.new.self at c.at.ensures.continues.0.0 ∙ ap (λ v. map (λ w. w.vector) v.0) c.self.view_is)

pub returns-clause-on_shard : goal.returns-clause-on_shard
returns-clause-on_shard g c =
    let items = c.self.inside.handles.items in
    let k = c.args.number % c.len-count.result in
    let view = c.index_mut.result.now in
    let within : k < length items = omega (arith, c.len-count.ensures, mod_below c.args.number c.len-count.result (omega (arith, c.len-count.ensures, c.self.invariant.0))) in
    let at = slice_get-get_or items k view within ∙ ap Some (sym c.index_mut.ensures.value) in
    let count_is : c.len-count.result ≡ length c.args.self.now.0 = omega (arith, c.len-count.ensures, ap (λ v. length v.0) c.self.view_is) in
    on_shard_at items c.args.self.now.0 k _ view c.at.new.self _ (ap (λ v. v.0) c.self.view_is) (ap (λ n. c.args.number % n) count_is) at (c.at.ensures.continues, c.at.ensures.name ∙ ap (λ n. slice_get (keys_of (items_of c.at.new.self.seen)) (c.args.number / n)) count_is)
