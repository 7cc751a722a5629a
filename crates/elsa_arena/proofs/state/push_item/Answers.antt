use Rattle.std.proofs.Common.{◌≡◌, ◌∷◌, [], ◌+◌, length, length-append, refl, subst, sym, ap, ◌∙◌, arith}
use Rattle.elsa_slots.specs.Geometry.{slots_before}
use Rattle.elsa_slots.specs.Ahead.{GoesOn}
use Rattle.elsa_slots.proofs.ListLemmas.Copies.{begins_rise, behind, closed_here}
use Rattle.elsa_arena.specs.Ready.{AreReady, end_of}
use Rattle.elsa_arena.proofs.IndexLemmas.{before_last}
use Rattle.elsa_arena.proofs.ReadyLemmas.{left_from, slots_low}
use Rattle.elsa_arena.proofs.state.push_item.Goals as goal

pub returns-then-count-ge-MOST-clause-full : goal.returns-then-count-ge-MOST-clause-full
returns-then-count-ge-MOST-clause-full g c =
    let s = c.args.state.now in let low = slots_low (end_of s.ahead.further.of s.ready.items) c.requires.ready.few in
    let all = c.if-count-ge-MOST.true in let count = c.requires.count in
    (refl, omega (arith, low, all, count))

pub open_next-requires-clause-location : goal.open_next-requires-clause-location
open_next-requires-clause-location g c =
    let s = c.args.state.now in let less = c.if-count-ge-MOST.false in
    (c.requires.index, before_last s.count s.buffer s.slot c.requires.index (omega (arith, less)), c.requires.all)

pub write_next-after-requires-clause-buffer_count : goal.write_next-after-requires-clause-buffer_count
write_next-after-requires-clause-buffer_count g c =
    let s = c.args.state.now in let less = c.if-count-ge-MOST.false in before_last s.count s.buffer s.slot c.requires.index (omega (arith, less))

pub returns-in-Ok-clause-same_vector : goal.returns-in-Ok-clause-same_vector
returns-in-Ok-clause-same_vector g c =
    let s = c.args.state.now in let after = c.replace-none.ensures.after in let up = c.write_next-after.ensures in
    let further = ap (λ a. a.further.of) after ∙ up.further in
    let many = ap length up.written.1 ∙ length-append s.prefix.items (c.args.item ∷ []) in let count = c.requires.count in let less = c.if-count-ge-MOST.false in
    record {
      names = up.written.0 ∙ c.requires.names;
      all = c.requires.all;
      count = omega (arith, many, count);
      limit = omega (arith, less);
      index = up.location;
      ahead = subst (λ a. GoesOn c.args.into.now (s.count + 1) a.opened a.slots.of a.further.of) (sym after) up.ahead;
      ready = subst (λ r. AreReady r c.open_next.new.ready.items) (sym further) c.in-Ok.ensures.ready.0;
    }

pub returns-in-Ok-clause-capacity : goal.returns-in-Ok-clause-capacity
returns-in-Ok-clause-capacity g c =
    let s = c.args.state.now in let fs = c.open_next.new.ready.items in let after = c.replace-none.new.dest in
    let further = ap (λ a. a.further.of) c.replace-none.ensures.after ∙ c.write_next-after.ensures.further in
    let old = ap (λ a. length a.further.of) c.replace-ahead.ensures.value in let new = ap length further in let more = c.in-Ok.ensures.ready.1 in
    begins_rise (end_of s.ahead.further.of s.ready.items) (end_of after.further.of fs) (omega (arith, old, new, more))

pub returns-in-Err-clause-full : goal.returns-in-Err-clause-full
returns-in-Err-clause-full g c =
    let s = c.args.state.now in let xs = c.args.into.now in let a = c.in-Err.ahead in let fs = c.open_next.new.ready.items in let no = c.in-Err.ensures.refused in
    let b = s.buffer in let j = s.slot in let at = c.requires.index in let less = c.if-count-ge-MOST.false in let low = before_last s.count b j at (omega (arith, less)) in
    let same : a.further.of ≡ s.ahead.further.of = no.2 ∙ ap (λ a. a.further.of) c.replace-ahead.ensures.value in
    let after : c.replace-none-in-Err.new.dest.further.of ≡ s.ahead.further.of = ap (λ a. a.further.of) c.replace-none-in-Err.ensures.after ∙ same in
    let items : fs ≡ s.ready.items = no.4 ∙ sym no.3 in
    let k = closed_here xs a.further.of s.count b j no.1 at in let begins = behind s.count b j at in let first = k.0 in
    let is = left_from xs a.further.of b c.requires.all (omega (arith, low)) k.1 in let l = ap length same in let none = ap length no.3 in
    let end : end_of s.ahead.further.of s.ready.items ≡ b = omega (arith, is, l, none) in let all = ap slots_before end in let count = c.requires.count in
    (ap (λ r. slots_before (end_of r fs)) after ∙ ap (λ fs. slots_before (end_of s.ahead.further.of fs)) items, omega (arith, all, begins, first, count))
