use Rattle.std.proofs.Common.{◌≡◌, ◌++◌, [], ◌∷◌, length, map, sum_by, take, ap, sym, ◌∙◌, arith}
use Rattle.std.proofs.lemmas.List.{length-append, map-append, take_more}
use Rattle.std.proofs.lemmas.List.Sums.{sum_by-append}
use Rattle.elsa_shards.proofs.lock_free.LockFreeShardedMap+K+V+S+A.rooms.Goals as goal

pub loop-map-preserved : goal.loop-map-preserved
loop-map-preserved g c =
    let rooms = c.loop-map.rooms.items in
    let room = c.in_ok-room.room in
    let maps = c.deref-map-items.result.now in
    let at = c.loop-map.map-index in
    let pushed : c.push.new.self.items ≡ rooms ++ room ∷ [] = c.in_ok-push.ensures.items in
    let count = ap length pushed ∙ length-append rooms (room ∷ []) in
    let sum = ap (sum_by (λ r. length r.seen)) pushed ∙ sum_by-append (λ r. length r.seen) rooms (room ∷ []) in (
      omega (arith, count, c.loop-map.invariant.0),
      ap (map (λ r. r.vector)) pushed ∙ map-append (λ r. r.vector) rooms (room ∷ []) ∙ ap (λ vs. vs ++ room.vector ∷ []) c.loop-map.invariant.1
          ∙ ap (λ v. take at maps ++ v ∷ []) (c.in_ok-room.ensures.same_vector ∙ c.map-item.is) ∙ sym (take_more maps at _ c.loop-map-test.true),
      omega (arith, c.in-Some.ensures, c.len-in-loop-map.ensures, c.loop-map.invariant.2, sum),
    )
