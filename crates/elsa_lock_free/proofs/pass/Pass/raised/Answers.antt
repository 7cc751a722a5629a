use Rattle.std.proofs.Common.{suc, length, refl, ap, arith}
use mathlib.Core.List.{IsPrefix}
use Rattle.elsa_lock_free.specs.History.{list_of}
use Rattle.elsa_lock_free.proofs.RuleLemmas.History.{list_prefix, prefix_of_longer}
use Rattle.elsa_lock_free.proofs.RuleLemmas.WriterIndices.{read_indices}
use Rattle.elsa_lock_free.proofs.pass.Pass.raised.Goals as goal

pub of-requires-clause-mine : goal.of-requires-clause-mine
of-requires-clause-mine g c =
    let v = c.parts-seen.result.0.log in let w = c.longer.inside.seen.log in let new = c.learn.new.self.log in let p = c.parts-seen.ensures in let s = c.bounded_by_tickets-writer.ensures in let a = suc c.parts-seen.result.1.name in
    let short = c.requires.shorter in let x = ap (λ z. length z.seen) p.same_view in let y = ap (λ z. length z.seen) c.longer.view_is in
    let pre : IsPrefix (list_of v) (list_of w) = prefix_of_longer (list_of v) (list_of w) (list_of new) (list_prefix v new c.learn.ensures.2) (list_prefix w new c.learn.ensures.3) (omega (arith, short, x, y)) in
    let some = read_indices a c.parts-seen.result.1.used (list_of v) (list_of w) pre p.mine s.2 in
    rw (c.again.ensures, s.0, s.1) some.0

pub returns-clause-seen : goal.returns-clause-seen
returns-clause-seen g c =
    let v = c.parts-seen.result.0.log in let w = c.longer.inside.seen.log in let new = c.learn.new.self.log in let p = c.parts-seen.ensures in let s = c.bounded_by_tickets-writer.ensures in let a = suc c.parts-seen.result.1.name in
    let short = c.requires.shorter in let x = ap (λ z. length z.seen) p.same_view in let y = ap (λ z. length z.seen) c.longer.view_is in
    let pre : IsPrefix (list_of v) (list_of w) = prefix_of_longer (list_of v) (list_of w) (list_of new) (list_prefix v new c.learn.ensures.2) (list_prefix w new c.learn.ensures.3) (omega (arith, short, x, y)) in
    let some = read_indices a c.parts-seen.result.1.used (list_of v) (list_of w) pre p.mine s.2 in
    rw (c.of.ensures, c.again.ensures, p.same_view, ← c.longer.view_is) (refl, pre)

pub returns-clause-mine : goal.returns-clause-mine
returns-clause-mine g c =
    let v = c.parts-seen.result.0.log in let w = c.longer.inside.seen.log in let new = c.learn.new.self.log in let p = c.parts-seen.ensures in let s = c.bounded_by_tickets-writer.ensures in let a = suc c.parts-seen.result.1.name in
    let short = c.requires.shorter in let x = ap (λ z. length z.seen) p.same_view in let y = ap (λ z. length z.seen) c.longer.view_is in
    let pre : IsPrefix (list_of v) (list_of w) = prefix_of_longer (list_of v) (list_of w) (list_of new) (list_prefix v new c.learn.ensures.2) (list_prefix w new c.learn.ensures.3) (omega (arith, short, x, y)) in
    let some = read_indices a c.parts-seen.result.1.used (list_of v) (list_of w) pre p.mine s.2 in
    rw (c.of.ensures, c.again.ensures, p.same_view, s.0) some.1
