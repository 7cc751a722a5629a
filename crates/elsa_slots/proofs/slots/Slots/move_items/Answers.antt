use Rattle.std.proofs.Common.{◌≡◌, suc, ◌+◌, ◌-◌, ◌*◌, ◌^◌, ◌<◌, length, take, refl, sym, ap, ◌∙◌, arith}
use Rattle.elsa_slots.specs.Geometry.{slots_before}
use Rattle.elsa_slots.proofs.GeometryLemmas.Powers.{before_power, four_suc}
use Rattle.elsa_slots.proofs.ListLemmas.Ends.{later_of, not_end, none_left, whole_one}
use Rattle.std.proofs.lemmas.List.{nil_from_length, take_all}
use Rattle.std.proofs.Math.Nat.{min-le_right}
use Rattle.elsa_slots.proofs.slots.Slots.move_items.Goals.{then-index-len, else-index-len+in-Some-into_full}
use Rattle.elsa_slots.proofs.slots.Slots.move_items.Goals as goal

pub loop-slot-init : goal.loop-slot-init
loop-slot-init g c =
    let given = c.into_iter-slot-iterator.ensures.into_iter_gives in
    (omega arith, (λ low. refl), given.0 ∙ c.self.view_is, c.requires.room.0, refl, given.1 ∙ c.self.inside.buffers.ok.0 ∙ sym (ap length given.0))

pub move_items-requires-clause-written : goal.move_items-requires-clause-written
move_items-requires-clause-written g c =
    let b = c.loop-slot.buffer in let n = c.loop-slot.index in let inv = c.loop-slot.invariant in let len = c.args.len in
    let less : n < len = not_end n len inv.0 c.if-index-len.false in let power = before_power b in let begins = inv.1 less in let many = c.requires.prefix.1 in
    let count = c.min-count.ensures in let few = min-le_right c.buffer_size.result (len - n) in omega (arith, less, power, begins, many, count, few)

pub move_items-requires-clause-room : goal.move_items-requires-clause-room
move_items-requires-clause-room g c =
    let inv = c.loop-slot.invariant in let len = c.args.len in let less : c.loop-slot.index < len = not_end c.loop-slot.index len inv.0 c.if-index-len.false in
    let power = before_power c.loop-slot.buffer in let begins = inv.1 less in let at : c.loop-slot.index ≡ slots_before c.loop-slot.buffer = omega (arith, power, begins) in
    let many = c.requires.prefix.1 in let room = c.requires.room.1 in let same = inv.4 in
    (inv.3 ∙ ap (λ k. take k c.args.prefix.now.items) at, omega (arith, many, room, same))

pub loop-slot-preserved : goal.loop-slot-preserved
loop-slot-preserved g c =
    let b = c.loop-slot.buffer in let n = c.loop-slot.index in let inv = c.loop-slot.invariant in let len = c.args.len in let items = c.args.prefix.now.items in
    let next = c.in-Some.ensures.steps in let rest = later_of c.args.self b c.in-Some.slot c.next.new.self.rest.items (sym inv.2 ∙ next.0) in
    let had = ap length next.0 in let left = inv.5 in let still : c.next.new.self.rest.len ≡ length c.next.new.self.rest.items = omega (arith, next.1, had, left) in
    elim c.if-index-len.branch [
      | then-index-len w ↦ (let at = w.index-is in let end = w.if-index-len.true in
          (omega (arith, at, end), (λ low. absurd (omega (arith, at, end, low))), rest, ap g.S.Sink.received w.to-is ∙ inv.3 ∙ ap (λ k. take k items) (sym at), ap g.S.Sink.capacity w.to-is ∙ inv.4, still))
      | else-index-len+in-Some-into_full w ↦ (let at = w.index-is in let less : n < len = not_end n len inv.0 w.if-index-len.false in let size = w.buffer_size.ensures in let count = w.min-count.ensures in let few = min-le_right w.buffer_size.result (len - n) in
          let power = before_power b in let begins = inv.1 less in let moved = w.move_items.ensures.received in
          let ends : slots_before b + w.min-count.result ≡ c.if-index-len.index = omega (arith, at, power, begins) in (
            omega (arith, at, less, count, few),
            (λ low.
                let full = whole_one w.buffer_size.result (len - n) (omega (arith, count, at, low)) in let power : 4 ^ (b + 1) ≡ 4 * 4 ^ b = ap (λ k. 4 ^ k) (let z : b + 1 ≡ suc b = omega arith in z) ∙ four_suc b in
                omega (arith, at, count, full, size, begins, power)),
            rest,
            ap g.S.Sink.received w.to-is ∙ moved.0 ∙ ap (λ k. take k items) ends,
            ap g.S.Sink.capacity w.to-is ∙ moved.1 ∙ inv.4,
            still,
          ))
    ]

pub returns : goal.returns
returns g c =
    let inv = c.loop-slot.invariant in let items = c.args.prefix.now.items in let all = ap length c.self.view_is in let few = c.self.invariant in
    let none = c.in-None.ensures.steps.0 in let left = inv.5 in
    let end = none_left c.args.self c.loop-slot.buffer c.loop-slot.index c.args.len (omega (arith, all, few)) (sym inv.2 ∙ nil_from_length _ (omega (arith, none, left))) inv.0 inv.1 c.requires.prefix.2 in
    let many = c.requires.prefix.1 in
    record { received = inv.3 ∙ take_all c.loop-slot.index items (omega (arith, end, many)) }
