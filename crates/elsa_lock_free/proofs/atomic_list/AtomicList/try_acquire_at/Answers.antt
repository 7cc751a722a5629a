use Rattle.std.proofs.Common.{length, ap, arith, length-append}
use Rattle.elsa_lock_free.specs.History.{is_held, list_of}
use Rattle.elsa_lock_free.proofs.RuleLemmas.History.{list_prefix}
use Rattle.elsa_lock_free.proofs.RuleLemmas.Steps.{bit_small}
use Rattle.elsa_lock_free.proofs.atomic_list.AtomicList.try_acquire_at.Goals as goal

pub returns-clause-taken : goal.returns-clause-taken
returns-clause-taken g c =
    let v = c.args.seen.now.log in let log = c.try_acquire.new.seen.log in let word = c.in_default.ensures.changed in let small = bit_small (is_held log) in
    let more = list_prefix v log c.try_acquire.ensures.seen in let l = ap length more.1 in let a = length-append (list_of v) more.0 in let n = c.requires.index.0 in
    (omega (arith, word, small), omega (arith, word, small, l, a, n))
