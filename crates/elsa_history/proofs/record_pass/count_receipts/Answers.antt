use Rattle.std.proofs.Common.{◌≡◌, ◌-◌, List, take, arith, refl, sym, ap, subst}
use Rattle.std.proofs.lemmas.List.{length-take-le}
use Rattle.elsa_history.specs.Receipts.{AreOf}
use Rattle.elsa_history.proofs.Receipts.{take_front}
use Rattle.elsa_history.proofs.record_pass.count_receipts.Goals as goal

pub loop-left-preserved-in-Taken : goal.loop-left-preserved-in-Taken
loop-left-preserved-in-Taken g c =
    let y = c.in-Taken.ensures.taken refl (take (c.loop-left.left - 1) c.args.entries.now) (length-take-le (c.loop-left.left - 1) c.args.entries.now (omega arith)) in
    let k = c.in-Taken.ensures.count refl in
    let s = take_front c.args.entries.now c.loop-left.left c.index-entries-left.result c.loop-left-test.true (omega arith) c.index-entries-left.is in
    let P : List _ → Type 0 = λ w. AreOf g.C.Command.PartialEq.eq g.C.Reply.PartialEq.eq c.loop-left.passes.items w in (
      omega arith,
      omega (arith, k, c.loop-left.invariant.1),
      ((λ a. c.loop-left.invariant.2.0 (subst P s (y.0 a))), (λ b. y.1 (subst P (sym s) (c.loop-left.invariant.2.1 b)))),
      (λ index h. let none = c.loop-left.invariant.3 index h in let less = c.in-Taken.ensures.fewer refl index in omega (arith, none, less)),
    )

pub loop-left-preserved : goal.loop-left-preserved
loop-left-preserved g c =
    let y = c.in-Nowhere.ensures.nowhere refl (take (c.loop-left.left - 1) c.args.entries.now) (length-take-le (c.loop-left.left - 1) c.args.entries.now (omega arith)) in
    let s = take_front c.args.entries.now c.loop-left.left c.index-entries-left.result c.loop-left-test.true (omega arith) c.index-entries-left.is in
    let P : List _ → Type 0 = λ w. AreOf g.C.Command.PartialEq.eq g.C.Reply.PartialEq.eq c.loop-left.passes.items w in
    rw (c.in-Nowhere.ensures.same refl) (
      omega arith,
      c.loop-left.invariant.1,
      ((λ a. c.loop-left.invariant.2.0 (subst P s (y.0 a))), (λ b. y.1 (subst P (sym s) (c.loop-left.invariant.2.1 b)))),
      c.loop-left.invariant.3,
    )

pub returns-in-Wrong-clause-none : goal.returns-in-Wrong-clause-none
returns-in-Wrong-clause-none g c =
    let s = take_front c.args.entries.now c.loop-left.left c.index-entries-left.result c.loop-left-test.true (omega arith) c.index-entries-left.is in
    let P : List _ → Type 0 = λ w. AreOf g.C.Command.PartialEq.eq g.C.Reply.PartialEq.eq c.loop-left.passes.items w in
    λ a. c.in-Wrong.ensures.wrong refl (take (c.loop-left.left - 1) c.args.entries.now) (length-take-le (c.loop-left.left - 1) c.args.entries.now (omega arith)) (subst P (sym s) (c.loop-left.invariant.2.1 a))

pub returns-clause-are_of : goal.returns-clause-are_of
returns-clause-are_of g c =
    let none : c.loop-left.left ≡ 0 = omega arith in
    c.loop-left.invariant.2.0
    (subst (AreOf g.C.Command.PartialEq.eq g.C.Reply.PartialEq.eq c.loop-left.passes.items) (sym (ap (λ n. take n c.args.entries.now) none)) (c.are_empty.ensures.when_true c.if-not-are_empty.false))
