use Rattle.std.proofs.Common.{◌≡◌, suc, ◌+◌, drop, refl, ap, ◌∙◌, subst, arith}
use Rattle.elsa_slots.specs.Ahead.{GoesOn}
use Rattle.elsa_slots.proofs.ListLemmas.Copies.{closed_here, open_here}
use Rattle.elsa_arena.proofs.IndexLemmas.{begins_low, later_low}
use Rattle.elsa_arena.proofs.state.State.split.Goals as goal

pub overflow_add-result : goal.overflow_add-result
overflow_add-result g c = let s = c.args.self in let low = begins_low s.count s.buffer s.slot c.requires.index c.requires.limit in omega (arith, low)

pub returns-in-Some-clause-next : goal.returns-in-Some-clause-next
returns-in-Some-clause-next g c =
    let s = c.args.self in let xs = c.args._cell.now in let o = c.in-Some.opened in let a = s.ahead in
    let here = open_here xs s.count s.buffer s.slot o.of o.value.0 a.slots.of a.further.of (subst (λ o. GoesOn xs s.count o a.slots.of a.further.of) c.in-Some.is c.requires.ahead) c.requires.index in
    record {
      names = c.requires.names;
      count = c.requires.count;
      openable = later_low s.count s.buffer s.slot c.requires.index c.requires.limit here.0;
      later = here.0;
      at = record { index = here.1.index; evidence = here.1.evidence; whole = here.1.whole; left = here.1.left; rights = refl };
    }

pub returns-in-Some-clause-later : goal.returns-in-Some-clause-later
returns-in-Some-clause-later g c =
    let s = c.args.self in let xs = c.args._cell.now in let o = c.in-Some.opened in let a = s.ahead in
    let here = open_here xs s.count s.buffer s.slot o.of o.value.0 a.slots.of a.further.of (subst (λ o. GoesOn xs s.count o a.slots.of a.further.of) c.in-Some.is c.requires.ahead) c.requires.index in
    let low = later_low s.count s.buffer s.slot c.requires.index c.requires.limit here.0 in
    record {
      all = c.requires.all;
      few = omega (arith, low);
      rights = here.1.rights ∙ ap (λ b. drop b xs) (let z : suc s.buffer ≡ s.buffer + 1 = omega arith in z);
      ready = c.requires.ready;
    }

pub returns-clause-later : goal.returns-clause-later
returns-clause-later g c =
    let s = c.args.self in let xs = c.args._cell.now in let a = s.ahead in
    let here = closed_here xs a.further.of s.count s.buffer s.slot (subst (λ o. GoesOn xs s.count o a.slots.of a.further.of) c.in_default.is c.requires.ahead) c.requires.index in
    record {
      all = c.requires.all;
      few = begins_low s.count s.buffer s.slot c.requires.index c.requires.limit;
      rights = here.1;
      ready = c.requires.ready;
    }
