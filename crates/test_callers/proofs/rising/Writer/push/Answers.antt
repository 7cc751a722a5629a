use Rattle.std.proofs.Common.{ℕ, Option, IfNone, IfSome, ◌≡◌, ◌<◌, length, take, subst, sym}
use Rattle.elsa_lock_free.specs.SharedList.{PushesNext, mine, pushed_by}
use Rattle.test_callers.specs.Rising.{AllBelow}
use Rattle.test_callers.proofs.RisingLemmas.{grows_below, may_push, stays_below}
use Rattle.test_callers.proofs.rising.Writer.push.Goals as goal

pub push_at-requires-clause-obeys_rule : goal.push_at-requires-clause-obeys_rule
push_at-requires-clause-obeys_rule g c =
    let old = c.self.inside.handle in let new = c.len-len.new.self in
    subst (λ (n : ℕ). AllBelow c.raised-item.result (pushed_by new.writer (take n new.seen))) (sym c.len-len.ensures.length)
    (may_push old new c.self.inside.next c.raised-item.result c.len-len.ensures.continues c.self.invariant c.raised-item.ensures)

pub invariant_of-self : goal.invariant_of-self
invariant_of-self g c =
    let old = c.self.inside.handle in let mid = c.len-len.new.self in let new = c.push_at.new.self in let later = c.push_at.ensures.later in
    stays_below mid new c.self.inside.next (later.0, later.1, c.in_err-push_at.ensures.refused.0) (stays_below old mid c.self.inside.next c.len-len.ensures.continues c.self.invariant)

pub invariant_of-self-in_default : goal.invariant_of-self-in_default
invariant_of-self-in_default g c =
    let old = c.self.inside.handle in let mid = c.len-len.new.self in let new = c.push_at.new.self in let later = c.push_at.ensures.later in
    stays_below mid new c.self.inside.next (later.0, later.1, (subst (λ (o : Option ℕ). IfNone o ((c.len-len.result < length new.seen) × (mine new ≡ mine mid))) c.in_default.is c.in_ok-push_at.ensures.longer).1) (stays_below old mid c.self.inside.next c.len-len.ensures.continues c.self.invariant)

pub invariant_of-self-2 : goal.invariant_of-self-2
invariant_of-self-2 g c =
    let old = c.self.inside.handle in let mid = c.len-len.new.self in let new = c.push_at.new.self in let item = c.raised-item.result in let n = c.len-len.result in
    let pushed = subst (λ (o : Option ℕ). IfSome o (λ i. (i ≡ n) × (length mid.seen ≡ n) × PushesNext mid new item)) c.in-Some.is c.in_ok-push_at.ensures.pushed in
    grows_below mid new c.self.inside.next item c.push_at.ensures.later pushed.2 (stays_below old mid c.self.inside.next c.len-len.ensures.continues c.self.invariant) c.raised-item.ensures
