use Rattle.std.proofs.Common.{ℕ, ◌≡◌, suc, ◌+◌, ◌-◌, ◌≤◌, length, subst, sym, arith}
use Rattle.std.proofs.lemmas.Result.{on_ok_weaker}
use Rattle.elsa_slots.proofs.ListLemmas.Copies.{begins_rise, ends_before, left_over}
use Rattle.elsa_arena.specs.Ready.{AreNext, end_of}
use Rattle.elsa_arena.proofs.ReadyLemmas.{within_open}
use Rattle.elsa_arena.proofs.state.reserve.Goals as goal

pub returns-then-additional-eq0-clause-room : goal.returns-then-additional-eq0-clause-room
returns-then-additional-eq0-clause-room g c =
    let s = c.args.state.now in let low = within_open c.args.into.now s.count s.ahead.opened s.ahead.slots.of s.ahead.further.of c.requires.ahead c.requires.all c.requires.limit in
    let first = 31 - length s.ahead.further.of in let few : first ≤ first + length s.ready.items = omega arith in
    let rise = begins_rise first (end_of s.ahead.further.of s.ready.items) few in
    let none = c.if-additional-eq0.true in let count = c.requires.count in omega (arith, low, rise, none, count)

pub make_ready-requires-clause-ready : goal.make_ready-requires-clause-ready
make_ready-requires-clause-ready g c =
    let s = c.args.state.now in let b = c.locate-buffer.result.0 in let j = c.locate-buffer.result.1 in let at = c.locate-buffer.ensures.located in
    let first = c.first_not_open.result in let closed = c.first_not_open.ensures.0 in let later = c.first_not_open.ensures.1 in
    let over = left_over c.args.into.now s.count b j first s.ahead.opened s.ahead.slots.of s.ahead.further.of c.requires.ahead at c.locate-buffer.ensures.openable c.requires.all closed later in
    let is : 31 - length s.ahead.further.of ≡ first = omega (arith, over) in
    let few = c.requires.ready.few in
    (subst (λ n. AreNext n s.ready.items) is c.requires.ready.next, omega (arith, few, is))

pub returns-clause-same_vector : goal.returns-clause-same_vector
returns-clause-same_vector g c =
    let s = c.args.state.now in let b = c.locate-buffer.result.0 in let j = c.locate-buffer.result.1 in let at = c.locate-buffer.ensures.located in
    let first = c.first_not_open.result in let closed = c.first_not_open.ensures.0 in let later = c.first_not_open.ensures.1 in
    let over = left_over c.args.into.now s.count b j first s.ahead.opened s.ahead.slots.of s.ahead.further.of c.requires.ahead at c.locate-buffer.ensures.openable c.requires.all closed later in
    let is : 31 - length s.ahead.further.of ≡ first = omega (arith, over) in
    let fs = c.make_ready.new.ready.items in let ready = c.make_ready.ensures.ready in let few = ready.1 in
    record {
      names = c.requires.names;
      all = c.requires.all;
      count = c.requires.count;
      limit = c.requires.limit;
      index = c.requires.index;
      ahead = c.requires.ahead;
      ready = record { next = subst (λ n. AreNext n fs) (sym {A = ℕ} is) ready.0; few = omega (arith, few, is) };
    }

pub returns-clause-capacity : goal.returns-clause-capacity
returns-clause-capacity g c =
    let s = c.args.state.now in let more = c.make_ready.ensures.more in
    begins_rise (end_of s.ahead.further.of s.ready.items) (end_of s.ahead.further.of c.make_ready.new.ready.items) (omega (arith, more))

pub returns-clause-room : goal.returns-clause-room
returns-clause-room g c =
    let s = c.args.state.now in let b = c.locate-buffer.result.0 in let j = c.locate-buffer.result.1 in let at = c.locate-buffer.ensures.located in
    let first = c.first_not_open.result in let closed = c.first_not_open.ensures.0 in let later = c.first_not_open.ensures.1 in
    let over = left_over c.args.into.now s.count b j first s.ahead.opened s.ahead.slots.of s.ahead.further.of c.requires.ahead at c.locate-buffer.ensures.openable c.requires.all closed later in
    let is : 31 - length s.ahead.further.of ≡ first = omega (arith, over) in
    let fs = c.make_ready.new.ready.items in let last = c.locate-last.result.0 in
    let end = ends_before (s.count + c.args.additional - 1) last c.locate-last.result.1 c.locate-last.ensures.located in
    let some = c.if-additional-eq0.false in let count = c.requires.count in
    on_ok_weaker c.make_ready.result (λ made. let rise = begins_rise (suc last) (end_of s.ahead.further.of fs) (omega (arith, made, is)) in omega (arith, rise, end, count)) c.make_ready.ensures.made
