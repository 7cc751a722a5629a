use Rattle.std.proofs.Common.{◌≡◌, ℕ, ◌+◌, ◌≤◌, flat_map, length, map, sum_by, vec_capacity, vec_len}
use Rattle.std.specs.Vec.Iter.{into_iter_items}
use Rattle.elsa_shards.specs.Shards.{AtMoments}
use Rattle.elsa_shards.proofs.lock_free.moved_out.Given as goal

-- The other rooms are those of the other shards, their entries fit into the list, and the pairs are
-- those of the shards that were taken apart, shard after shard.
abbrev pub invariant-loop-shard : goal.invariant-loop-shard
invariant-loop-shard g l =
    let rest = into_iter_items l.shard-iterator in
    (map (λ room. room.vector) (into_iter_items l.rooms_left) ≡ rest)
    × (vec_len l.pairs + sum_by (λ room. length room.seen) (into_iter_items l.rooms_left) ≤ vec_capacity l.pairs)
    × ((count : ℕ) × (count + length rest ≡ length l.fn.shards.items)
    × AtMoments g.K.PartialEq.eq (λ k v. Unit {0}) count (λ entries. l.pairs.items ≡ flat_map (λ es. es) entries))
