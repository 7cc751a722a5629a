use Rattle.std.proofs.Common.{◌≡◌, ℕ, suc, length, ap, ◌∙◌, arith}
use Rattle.elsa_lock_free.specs.SharedList.{count}
use Rattle.elsa_lock_free.specs.History.{list_of}
use Rattle.elsa_lock_free.proofs.RuleLemmas.History.{copied_length, items_length}
use Rattle.elsa_lock_free.proofs.RuleLemmas.WriterIndices.{no_indices}
use Rattle.elsa_lock_free.proofs.handle.Handle+T+A+K.clone_vector.Goals as goal

pub of-copy_pass-requires-clause-length : goal.of-copy_pass-requires-clause-length
of-copy_pass-requires-clause-length g c =
    let read = c.len-n.ensures in let prefix = c.evidence-prefix.result in
    let a = ap length c.in_ok-list.ensures.items in let b = copied_length prefix.items in let d = ap length c.evidence-prefix.ensures.1 in let e = items_length c.self.inside.pass.seen in let v = ap (λ w. length w.seen) c.self.view_is in let n = read.length in
    (omega (arith, a, b, d, e, v, n), read.limit)

pub returns-clause-clone_mine : goal.returns-clause-clone_mine
returns-clause-clone_mine g c =
    let s = c.bounded_by_tickets-writer.ensures in let z = c.new.ensures in let le = s.2 in let log = c.in_ok-list.seen.log in
    let none : count (suc c.bounded_by_tickets-writer.result.name) (list_of log) ≡ 0 = ap (λ (k : ℕ). count (suc k) (list_of log)) s.0 ∙ (let n : count (suc c.new.result.name) (list_of log) ≡ 0 = omega (arith, le, z) in n) in
    rw (c.of-copy_pass.ensures) (no_indices (suc c.bounded_by_tickets-writer.result.name) 0 (list_of log) none)
