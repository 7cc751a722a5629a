use Rattle.std.proofs.Common.{◌≡◌, ◌^◌, suc, length, refl, ap, sym, ◌∙◌, arith}
use Rattle.elsa_slots.proofs.GeometryLemmas.Powers.{before_power}
use Rattle.elsa_lock_free.specs.SharedList.{count}
use Rattle.elsa_lock_free.specs.History.{list_of}
use Rattle.elsa_lock_free.proofs.RuleLemmas.History.{list_prefix}
use Rattle.elsa_lock_free.proofs.RuleLemmas.WriterIndices.{read_indices}
use Rattle.elsa_lock_free.proofs.RuleLemmas.HoldEnd.{acquired_list}
use Rattle.elsa_lock_free.proofs.handle.Handle.hold_now.Goals as goal

pub release-seen-requires-clause-mine : goal.release-seen-requires-clause-mine
release-seen-requires-clause-mine g c =
    let p = c.parts-seen.ensures in let v = c.parts-seen.result.0.log in let a = suc c.parts-seen.result.1.name in let log = c.acquire-n.new.seen.log in let got = c.acquire-n.ensures in
    let s = c.bounded_by_tickets-writer.ensures in let more = list_prefix v log got.seen in
    let some = read_indices a c.parts-seen.result.1.used (list_of v) (list_of log) more p.mine s.2 in
    let mine : count (suc c.bounded_by_tickets-writer.result.name) (list_of log) ≡ c.bounded_by_tickets-writer.result.used = ap (λ n. count (suc n) (list_of log)) s.0 ∙ (some.0 ∙ sym s.1) in
    omega (arith, mine)

pub released-requires-clause-length : goal.released-requires-clause-length
released-requires-clause-length g c =
    let got = c.acquire-n.ensures in
    (got.length.0 ∙ (sym (ap length (acquired_list c.acquire-n.result.1.answer c.acquire-n.new.seen.log got.right.1)) ∙ sym (ap length c.release-seen.ensures.seen)), got.length.1)

pub returns-then-n-eq-LIMIT-clause-continues : goal.returns-then-n-eq-LIMIT-clause-continues
returns-then-n-eq-LIMIT-clause-continues g c =
    let p = c.parts-seen.ensures in let v = c.parts-seen.result.0.log in let a = suc c.parts-seen.result.1.name in let log = c.acquire-n.new.seen.log in let got = c.acquire-n.ensures in
    let s = c.bounded_by_tickets-writer.ensures in let more = list_prefix v log got.seen in
    let some = read_indices a c.parts-seen.result.1.used (list_of v) (list_of log) more p.mine s.2 in
    let mine : count (suc c.bounded_by_tickets-writer.result.name) (list_of log) ≡ c.bounded_by_tickets-writer.result.used = ap (λ n. count (suc n) (list_of log)) s.0 ∙ (some.0 ∙ sym s.1) in
    let up = c.release-seen.ensures in
    rw (sym c.self.view_is ∙ (sym c.lend.ensures.same_view ∙ p.same_view), c.released.ensures, up.same.0.0, up.same.0.1, up.same.1, s.0, got.same.0, got.same.1, up.seen) ((refl, refl), more, some.1)

pub returns-then-n-eq-LIMIT-clause-full : goal.returns-then-n-eq-LIMIT-clause-full
returns-then-n-eq-LIMIT-clause-full g c =
    let got = c.acquire-n.ensures in let log = c.acquire-n.new.seen.log in let up = c.release-seen.ensures in
    let n = got.length.0 ∙ sym (ap length (acquired_list c.acquire-n.result.1.answer log got.right.1)) in let t = before_power 31 in
    rw (c.released.ensures, up.seen) (31, omega arith, (let h = c.if-n-eq-LIMIT.true in let z : 4 ^ 31 ≡ 2 ^ 62 = refl in omega (arith, h, z, n, t)))

pub of-requires-clause-mine : goal.of-requires-clause-mine
of-requires-clause-mine g c =
    let p = c.parts-seen.ensures in let v = c.parts-seen.result.0.log in let a = suc c.parts-seen.result.1.name in let log = c.acquire-n.new.seen.log in let got = c.acquire-n.ensures in
    let s = c.bounded_by_tickets-writer.ensures in let more = list_prefix v log got.seen in
    let some = read_indices a c.parts-seen.result.1.used (list_of v) (list_of log) more p.mine s.2 in
    let mine : count (suc c.bounded_by_tickets-writer.result.name) (list_of log) ≡ c.bounded_by_tickets-writer.result.used = ap (λ n. count (suc n) (list_of log)) s.0 ∙ (some.0 ∙ sym s.1) in
    rw (c.again.ensures) mine

pub of-requires-clause-length : goal.of-requires-clause-length
of-requires-clause-length g c =
    let got = c.acquire-n.ensures in
    rw (c.again.ensures) (got.length.0 ∙ sym (ap length (acquired_list c.acquire-n.result.1.answer c.acquire-n.new.seen.log got.right.1)), got.length.1)

pub returns-clause-continues : goal.returns-clause-continues
returns-clause-continues g c =
    let p = c.parts-seen.ensures in let v = c.parts-seen.result.0.log in let a = suc c.parts-seen.result.1.name in let log = c.acquire-n.new.seen.log in let got = c.acquire-n.ensures in
    let s = c.bounded_by_tickets-writer.ensures in let more = list_prefix v log got.seen in
    let some = read_indices a c.parts-seen.result.1.used (list_of v) (list_of log) more p.mine s.2 in
    let mine : count (suc c.bounded_by_tickets-writer.result.name) (list_of log) ≡ c.bounded_by_tickets-writer.result.used = ap (λ n. count (suc n) (list_of log)) s.0 ∙ (some.0 ∙ sym s.1) in
    rw (sym c.self.view_is ∙ (sym c.lend.ensures.same_view ∙ p.same_view), c.of.ensures, c.again.ensures, s.0, got.same.0, got.same.1) ((refl, refl), more, some.1)
