use Rattle.std.proofs.Common.{List, suc, length, length-append, take, ap, sym, ◌∙◌, arith}
use Rattle.std.proofs.lemmas.List.{length-take}
use Rattle.std.proofs.Math.Nat.{min-eq_left}
use Rattle.elsa_lock_free.specs.declared.event.Entry.{Entry}
use Rattle.elsa_lock_free.specs.SharedList.{written_by, count}
use Rattle.elsa_lock_free.specs.History.{list_of}
use Rattle.elsa_lock_free.proofs.RuleLemmas.History.{written_by_length, count_prefix, list_prefix}
use Rattle.elsa_lock_free.proofs.RuleLemmas.HoldEnd.{acquired_list, extended_count}
use Rattle.elsa_lock_free.proofs.atomic_list.extend.AtomicList+T+A+K.extend.Goals as goal

pub append_all-seen-requires-clause-mine : goal.append_all-seen-requires-clause-mine
append_all-seen-requires-clause-mine g c =
    let more = count_prefix (suc c.args.writer.name) c.args.seen.log c.acquire-n.new.seen.log c.acquire-n.ensures.seen in let mine = c.requires.mine in omega (arith, more, mine)

pub returns-clause-mine : goal.returns-clause-mine
returns-clause-mine g c =
    let log = c.acquire-n.new.seen.log in let a = suc c.args.writer.name in let up = c.append_all-seen.ensures in let pushed = take c.append_all-seen.result.2 c.args.items.now in
    let all = ap (λ (l : List (Entry g.row.T.Denot)). count a l) up.pushed ∙ extended_count a (list_of log) pushed in let m = up.mine.0 in let u = up.mine.1 in
    let many = length-take c.append_all-seen.result.2 c.args.items.now ∙ min-eq_left up.count.0 in
    (omega (arith, all, m, u, many), u)

pub returns-clause-pushed : goal.returns-clause-pushed
returns-clause-pushed g c =
    let v = c.args.seen.log in let log = c.acquire-n.new.seen.log in
    (list_of log, list_prefix v log c.acquire-n.ensures.seen, ap length (acquired_list c.acquire-n.result.1.answer log c.acquire-n.ensures.right.1) ∙ sym c.acquire-n.ensures.length.0, c.append_all-seen.ensures.pushed)

pub returns-clause-length : goal.returns-clause-length
returns-clause-length g c =
    let log = c.acquire-n.new.seen.log in let a = suc c.args.writer.name in let up = c.append_all-seen.ensures in let pushed = take c.append_all-seen.result.2 c.args.items.now in
    let n = ap length (acquired_list c.acquire-n.result.1.answer log c.acquire-n.ensures.right.1) ∙ sym c.acquire-n.ensures.length.0 in
    let all = ap length up.pushed in let both = length-append (list_of log) (written_by a pushed) in let its = written_by_length a pushed in let many = length-take c.append_all-seen.result.2 c.args.items.now ∙ min-eq_left up.count.0 in
    omega (arith, n, all, both, its, many)
