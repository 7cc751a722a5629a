use Rattle.std.proofs.Common.{ℕ, suc, length, subst, sym, ap, ◌∙◌, arith}
use Rattle.std.proofs.lemmas.List.{length-drop}
use Rattle.elsa_slots.specs.Ahead.{GoesOn}
use Rattle.elsa_slots.proofs.ListLemmas.Copies.{closed_here, open_here}
use Rattle.elsa_arena.specs.Ready.{AreNext}
use Rattle.elsa_arena.proofs.ReadyLemmas.{left_from, next_rest}
use Rattle.elsa_arena.proofs.state.open_next.Goals as goal

pub open_fresh-requires-clause-ready : goal.open_fresh-requires-clause-ready
open_fresh-requires-clause-ready g c =
    let a = c.args.ahead in let b = c.args.buffer in let xs = c.args.into.now in let low = c.requires.location.1 in
    let k = closed_here xs a.further.of c.args._n b c.args._slot (subst (λ o. GoesOn xs c.args._n o a.slots.of a.further.of) c.in_default.is c.requires.ahead) c.requires.location.0 in
    subst (λ n. AreNext n c.args.ready.now.items) (left_from xs a.further.of b c.requires.location.2 (omega (arith, low)) k.1) c.requires.ready.next

pub returns-in-Some-clause-open : goal.returns-in-Some-clause-open
returns-in-Some-clause-open g c =
    let a = c.args.ahead in let opened = c.in-Some.opened in let xs = c.args.into.now in
    (open_here xs c.args._n c.args.buffer c.args._slot opened.of opened.value.0 a.slots.of a.further.of
    (subst (λ o. GoesOn xs c.args._n o a.slots.of a.further.of) c.in-Some.is c.requires.ahead) c.requires.location.0).1

pub returns-in-Ok-clause-ready : goal.returns-in-Ok-clause-ready
returns-in-Ok-clause-ready g c =
    let a = c.args.ahead in let b = c.args.buffer in let xs = c.args.into.now in let low = c.requires.location.1 in let all = c.requires.location.2 in
    let old = c.args.ready.now.items in let left = c.in-Ok.ensures.left in
    let k = closed_here xs a.further.of c.args._n b c.args._slot (subst (λ o. GoesOn xs c.args._n o a.slots.of a.further.of) c.in_default.is c.requires.ahead) c.requires.location.0 in
    let before = left_from xs a.further.of b all (omega (arith, low)) k.1 in
    let after = left_from xs c.in-Ok.fresh.further.of (suc b) all (omega (arith, low)) c.in-Ok.ensures.open.rights in
    let less = ap length left ∙ length-drop 1 old in let few = c.requires.ready.few in (
      record {
        next = subst (λ n. AreNext n c.open_fresh.new.ready.items) (sym {A = ℕ} after) (subst (λ fs. AreNext (suc b) fs) (sym left) (next_rest b old (subst (λ n. AreNext n old) before c.requires.ready.next)));
        few = omega (arith, less, few, before, after, low);
      },
      omega (arith, less, before, after),
    )
