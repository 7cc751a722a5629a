use Rattle.std.proofs.Common.{◌≡◌, suc, ◌+◌, ◌<◌, ◌∷◌, ◌++◌, [], length, drop, take, slice_get, sym, ap, ◌∙◌, arith}
use Rattle.std.proofs.lemmas.List.{length-take-le}
use Rattle.elsa_slots.specs.Geometry.{size_of, slots_before}
use Rattle.elsa_slots.proofs.ListLemmas.Copies.{ends_below, one_more}
use Rattle.elsa_slots.proofs.ListLemmas.Ends.{same_later}
use Rattle.elsa_slots.proofs.slots.buffer.Buffer.move_items.Goals as goal

pub overflow_add-begin : goal.overflow_add-begin
overflow_add-begin g c =
    let b = c.args.buffer in let e = ends_below b c.requires.buffer.0 in let s = c.prior_total_buffer_size-begin.ensures.before in let t = c.loop-slot-test.true in let n = c.requires.buffer.1 in
    record { fits = omega (arith, e, s, t, n) }

pub loop-slot-preserved : goal.loop-slot-preserved
loop-slot-preserved g c =
    let i = c.loop-slot.slot in let xs = c.loop-slot.cells.names in let ys = c.args.self.0 in let inv = c.loop-slot.invariant in let t = c.take.ensures in
    let whole : length ys ≡ size_of c.args.buffer = ap (λ r. length r.0) (sym (c.agrees.ensures ∙ c.requires.opened.1)) ∙ c.at-source.ensures.opened.1 in
    let as_long : length ys ≡ length xs = ap (λ r. length r.0) (sym c.self.view_is) ∙ (c.self.invariant.1 ∙ sym inv.1) in
    let n = c.requires.buffer.1 in let test = c.loop-slot-test.true in let ly : i < length ys = omega (arith, n, test, whole) in let lx : i < length xs = omega (arith, ly, as_long) in
    let next : i + 1 ≡ suc i = omega arith in
    let at = slots_before c.args.buffer in let items = c.args.prefix.now.items in let begin = c.prior_total_buffer_size-begin.ensures.before in
    let more = one_more items (at + i) c.at-source.result.1.value (ap (λ k. slice_get items (k + i)) (sym begin) ∙ c.at-source.ensures.item.1) in
    let received = c.receive.ensures.received ∙ ap (λ l. l ++ c.take.result ∷ []) inv.3 ∙ ap (λ x. take (at + i) items ++ x ∷ []) t.0 ∙ more ∙ ap (λ k. take k items) (let z : (at + i) + 1 ≡ at + (i + 1) = omega arith in z) in
    (t.1 ∙ inv.0, t.2 ∙ inv.1, ap (λ k. drop k c.take.new.self.names) next ∙ (t.3 ∙ (same_later xs ys i inv.2 lx ly ∙ ap (λ k. drop k ys) (sym next))), received, c.receive.ensures.capacity ∙ inv.4)

pub receive-requires : goal.receive-requires
receive-requires g c =
    let i = c.loop-slot.slot in let inv = c.loop-slot.invariant in let at = slots_before c.args.buffer in let items = c.args.prefix.now.items in
    let test = c.loop-slot-test.true in let all = c.requires.written in let room = c.requires.room.1 in let same = inv.4 in
    let many = ap length inv.3 ∙ length-take-le (at + i) items (omega (arith, test, all)) in omega (arith, many, test, all, room, same)
