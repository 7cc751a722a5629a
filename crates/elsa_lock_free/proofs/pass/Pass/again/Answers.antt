use Rattle.std.proofs.Common.{◌≡◌, ℕ, suc, refl, ap, sym, ◌∙◌, arith}
use Rattle.elsa_lock_free.specs.SharedList.{count}
use Rattle.elsa_lock_free.specs.History.{list_of}
use Rattle.elsa_lock_free.proofs.RuleLemmas.WriterIndices.{no_indices}
use Rattle.elsa_lock_free.proofs.pass.Pass.again.Goals as goal

pub of-requires-clause-mine : goal.of-requires-clause-mine
of-requires-clause-mine g c = let s = c.bounded_by_tickets.ensures in let z = c.new.ensures in let le = s.2 in let log = c.self.inside.seen.log in
    let none : count (suc c.new.result.name) (list_of log) ≡ c.new.result.used = omega (arith, le, z) in
    rw (c.again.ensures) (ap (λ (k : ℕ). count (suc k) (list_of log)) s.0 ∙ (none ∙ sym s.1))

pub returns : goal.returns
returns g c = let s = c.bounded_by_tickets.ensures in let z = c.new.ensures in let le = s.2 in let log = c.self.inside.seen.log in
    let none : count (suc c.bounded_by_tickets.result.name) (list_of log) ≡ 0 = ap (λ (k : ℕ). count (suc k) (list_of log)) s.0 ∙ (let n : count (suc c.new.result.name) (list_of log) ≡ 0 = omega (arith, le, z) in n) in
    rw (c.of.ensures, c.again.ensures, ← c.self.view_is) (refl, refl, no_indices (suc c.bounded_by_tickets.result.name) 0 (list_of log) none)
