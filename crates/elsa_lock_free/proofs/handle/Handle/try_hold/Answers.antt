use Rattle.std.proofs.Common.{◌≡◌, suc, length, refl, ap, sym, ◌∙◌, arith}
use Rattle.elsa_lock_free.specs.SharedList.{count}
use Rattle.elsa_lock_free.specs.History.{list_of}
use Rattle.elsa_lock_free.proofs.RuleLemmas.History.{list_prefix, prefix_whole}
use Rattle.elsa_lock_free.proofs.RuleLemmas.WriterIndices.{read_indices}
use Rattle.elsa_lock_free.proofs.RuleLemmas.HoldEnd.{acquired_list}
use Rattle.elsa_lock_free.proofs.handle.Handle.try_hold.Goals as goal

pub at_length-requires-clause-index : goal.at_length-requires-clause-index
at_length-requires-clause-index g c =
    let p = c.parts-seen.ensures in let r = c.requires.room in let n = ap (λ w. length w.seen) (sym c.self.view_is ∙ (sym c.lend.ensures.same_view ∙ p.same_view)) in let l = p.length.0 in
    (sym c.in-Ok.ensures.right.2, omega (arith, r, n, l))

pub of-requires-clause-mine : goal.of-requires-clause-mine
of-requires-clause-mine g c =
    let p = c.parts-seen.ensures in let v = c.parts-seen.result.0.log in let log = c.try_acquire_at.new.seen.log in let a = suc c.parts-seen.result.1.name in let s = c.bounded_by_tickets-writer.ensures in let right = c.in-Ok.ensures.right in
    let at : length (list_of log) ≡ c.parts-seen.result.2 = ap length (acquired_list c.in-Ok.right.answer log right.1) ∙ right.2 in
    let whole : list_of v ≡ list_of log = prefix_whole (list_of v) (list_of log) (list_prefix v log c.try_acquire_at.ensures.seen) (let l = p.length.0 in omega (arith, at, l)) in
    rw (c.again.ensures) (ap (λ n. count (suc n) (list_of log)) s.0 ∙ (ap (count a) (sym whole) ∙ (p.mine ∙ sym s.1)))

pub of-requires-clause-length : goal.of-requires-clause-length
of-requires-clause-length g c =
    let p = c.parts-seen.ensures in let log = c.try_acquire_at.new.seen.log in let right = c.in-Ok.ensures.right in
    let at : length (list_of log) ≡ c.parts-seen.result.2 = ap length (acquired_list c.in-Ok.right.answer log right.1) ∙ right.2 in
    rw (c.again.ensures) (sym at, p.length.1)

pub of-requires-in-Err-clause-mine : goal.of-requires-in-Err-clause-mine
of-requires-in-Err-clause-mine g c =
    let s = c.bounded_by_tickets-writer-in-Err.ensures in let p = c.parts-seen.ensures in let a = suc c.parts-seen.result.1.name in let v = c.parts-seen.result.0.log in let log = c.try_acquire_at.new.seen.log in
    let some = read_indices a c.parts-seen.result.1.used (list_of v) (list_of log) (list_prefix v log c.try_acquire_at.ensures.seen) p.mine s.2 in
    ap (λ n. count (suc n) (list_of log)) s.0 ∙ (some.0 ∙ sym s.1)

pub returns-in-Ok-clause-held : goal.returns-in-Ok-clause-held
returns-in-Ok-clause-held g c =
    let p = c.parts-seen.ensures in let v = c.parts-seen.result.0.log in let log = c.try_acquire_at.new.seen.log in let s = c.bounded_by_tickets-writer.ensures in let right = c.in-Ok.ensures.right in
    let at : length (list_of log) ≡ c.parts-seen.result.2 = ap length (acquired_list c.in-Ok.right.answer log right.1) ∙ right.2 in
    let whole : list_of v ≡ list_of log = prefix_whole (list_of v) (list_of log) (list_prefix v log c.try_acquire_at.ensures.seen) (let l = p.length.0 in omega (arith, at, l)) in
    let same = c.try_acquire_at.ensures.same in
    rw (sym c.self.view_is ∙ (sym c.lend.ensures.same_view ∙ p.same_view), c.of.ensures, c.at_length.ensures, c.again.ensures, s.0, same.0, same.1, sym whole) (refl, (refl, refl))

pub returns-then-length-n-clause-busy : goal.returns-then-length-n-clause-busy
returns-then-length-n-clause-busy g c =
    let p = c.parts-seen.ensures in let v = c.parts-seen.result.0.log in let log = c.try_acquire_at.new.seen.log in let s = c.bounded_by_tickets-writer-in-Err.ensures in
    let m = c.in-Err.ensures.taken.0 in let equal = c.if-length-n.true in let l = p.length.0 in
    let whole : list_of v ≡ list_of log = prefix_whole (list_of v) (list_of log) (list_prefix v log c.try_acquire_at.ensures.seen) (omega (arith, m, equal, l)) in
    let same = c.try_acquire_at.ensures.same in
    rw (sym c.self.view_is ∙ (sym c.lend.ensures.same_view ∙ p.same_view), c.of-in-Err.ensures, s.0, same.0, same.1, sym whole) refl

pub returns-else-length-n-clause-longer : goal.returns-else-length-n-clause-longer
returns-else-length-n-clause-longer g c =
    let s = c.bounded_by_tickets-writer-in-Err.ensures in let p = c.parts-seen.ensures in let a = suc c.parts-seen.result.1.name in let v = c.parts-seen.result.0.log in let log = c.try_acquire_at.new.seen.log in
    let more = list_prefix v log c.try_acquire_at.ensures.seen in
    let some = read_indices a c.parts-seen.result.1.used (list_of v) (list_of log) more p.mine s.2 in
    let same = c.try_acquire_at.ensures.same in let long = c.in-Err.ensures.taken in let l = p.length.0 in let m = long.0 in let n = long.1 in let other = c.if-length-n.false in
    rw (sym c.self.view_is ∙ (sym c.lend.ensures.same_view ∙ p.same_view), c.of-in-Err.ensures, s.0, same.0, same.1) (((refl, refl), more, some.1), omega (arith, l, m, n, other))
