use Rattle.std.proofs.Common.{◌+◌, ◌∙◌, drop, length, map, sum_by, ap, sym, arith}
use Rattle.std.specs.Vec.Iter.{into_iter_items}
use Rattle.std.proofs.lemmas.List.Sums.{sum_by-cons}
use Rattle.elsa_tables.proofs.RuleLemmas.{any_kept}
use Rattle.elsa_shards.proofs.MomentLemmas.{joined, none_joined}
use Rattle.elsa_shards.proofs.lock_free.moved_out.Goals as goal

pub loop-shard-init : goal.loop-shard-init
loop-shard-init g c =
    let shards = c.into_iter-shard-iterator.ensures.into_iter_gives.0 in let rooms = c.into_iter-rooms_left.ensures.rest in
    let sum = ap (sum_by (λ room. length room.seen)) rooms in (
      ap (map (λ room. room.vector)) rooms ∙ (c.requires.same_vectors ∙ sym shards),
      omega (arith, sum, c.requires.empty.1, c.requires.room),
      (0, (let count = ap length shards in omega (arith, count)), none_joined g.K.PartialEq.eq (λ k v. Unit {0}) c.args.pairs.items c.requires.empty.0),
    )

pub loop-shard-preserved : goal.loop-shard-preserved
loop-shard-preserved g c =
    let was = c.loop-shard.invariant in let step = c.in-Some.ensures.steps in let room = c.in-Some-next.ensures.cases in
    let entries = c.into_room-entries in let rest = into_iter_items c.next-in-loop-shard.new.self in
    let sum = ap (sum_by (λ room. length room.seen)) room.0 ∙ sum_by-cons (λ room. length room.seen) c.in-Some-next.room rest in
    let count = ap length step.0 in (
      sym (ap (λ l. drop 1 (map (λ room. room.vector) l)) room.0) ∙ (ap (drop 1) was.0 ∙ ap (drop 1) step.0),
      omega (arith, was.1, sum, c.in-Ok.ensures.len, c.in-Ok.ensures.capacity, entries.ensures.length),
      (
        was.2.0 + 1,
        omega (arith, was.2.1, count),
        joined g.K.PartialEq.eq (λ k v. Unit {0}) was.2.0 c.loop-shard.pairs.items c.append.new.self.items entries.result.items was.2.2 entries.ensures.distinct (any_kept g.K.PartialEq.eq g.met.K.Eq.laws entries.result.items) c.in-Ok.ensures.items,
      ),
    )
