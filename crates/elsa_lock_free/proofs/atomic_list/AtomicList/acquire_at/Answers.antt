use Rattle.std.proofs.Common.{length, ap, arith, length-append}
use Rattle.elsa_lock_free.specs.History.{is_held, list_of}
use Rattle.elsa_lock_free.proofs.RuleLemmas.History.{list_prefix}
use Rattle.elsa_lock_free.proofs.RuleLemmas.Steps.{bit_small}
use Rattle.elsa_lock_free.proofs.atomic_list.AtomicList.acquire_at.Goals as goal

pub returns-then-length-n-clause-longer : goal.returns-then-length-n-clause-longer
returns-then-length-n-clause-longer g c =
    let v = c.args.seen.now.log in let log = c.loop.seen.log in let inv = c.loop.invariant in
    let word = inv.5 in let small = bit_small (is_held log) in
    let first = c.load-found.new.seen.log in
    let begin = list_prefix v first c.load-found.ensures.seen in let k = ap length begin.1 in let b = length-append (list_of v) begin.0 in
    let more = list_prefix first log inv.4 in let l = ap length more.1 in let a = length-append (list_of first) more.0 in
    let at = c.requires.index in let other = c.if-length-n.true in
    (omega (arith, word, small), omega (arith, word, small, k, b, l, a, at, other))
