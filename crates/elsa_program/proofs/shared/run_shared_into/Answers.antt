use Rattle.std.proofs.Common.{◌≡◌, ℕ, ◌∙◌, List, ap, map, subst, sym}
use mathlib.Core.List.{IsPrefix}
use Rattle.std.specs.Prelude.{Option}
use Rattle.elsa_lock_free.specs.declared.event.Entry.{Entry}
use Rattle.elsa_lock_free.specs.SharedList.{View, pushed_by}
use Rattle.elsa_program.specs.declared.shared.Done.{Done}
use Rattle.elsa_program.specs.declared.shared.SharedFault.{SharedFault}
use Rattle.elsa_program.specs.Workers.{HaveWorked}
use Rattle.elsa_program.proofs.Writers.{have_worked}
use Rattle.elsa_program.proofs.shared.run_shared_into.Goals as goal

-- Each result is a worker's, and the list at the end has what the worker's writer pushed.
pub returns-clause-pushed : goal.returns-clause-pushed
returns-clause-pushed g c =
    let made = c.in_ok-done.ensures in let count = c.args.count in
    let done : List (Done g.row.A.Denot) = c.in_ok-done.done.items in
    let before : List (Entry ℕ) = c.args.pass.now.seen in let seen : List (Entry ℕ) = c.settle.new.pass.seen in
    let begun : c.begin-longest.new.pass.seen ≡ before = ap (λ (p : View ℕ). p.seen) c.begin-longest.ensures.same in
    let ended : seen ≡ c.meet.new.self.seen = ap (λ (p : View ℕ). p.seen) c.settle.ensures.same in
    let pre : IsPrefix before seen = subst (λ (es : List (Entry ℕ)). IsPrefix before es) (sym ended) (subst (λ (es : List (Entry ℕ)). IsPrefix es c.meet.new.self.seen) begun c.meet.ensures.0.0.1) in
    let worked : HaveWorked count before seen (map (λ (d : Done g.row.A.Denot). d.fault) done) =
    have_worked (λ (d : Done g.row.A.Denot). d.pass.writer) seen (λ (d : Done g.row.A.Denot). d.fault) count before done pre
    (λ worker d below. let w = made.2 worker d below in let same = c.settle.ensures.pushed worker d below in
    (ap (pushed_by _) (sym begun) ∙ w.1, (w.2.0, same ∙ w.2.1, w.2.2))) in
    subst (λ (faults : List (Option SharedFault)). HaveWorked count before seen faults) (sym c.settle.ensures.faults) worked
