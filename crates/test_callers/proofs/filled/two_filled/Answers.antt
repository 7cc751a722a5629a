use Rattle.std.proofs.Common.{rules, ◌≡◌, ℕ, ◌*◌, ◌<◌, ◌∙◌, All, List, Option, Some, None, false, is_some, length, ap, arith, subst}
use Rattle.elsa_program.specs.declared.shared.SharedFault.{SharedFault}
use Rattle.elsa_lock_free.specs.SharedList.{pushed_by}
use Rattle.elsa_program.specs.Workers.{HasPushed, HaveWorked, IsFirstFault, numbers}
use Rattle.test_callers.proofs.filled.two_filled.Goals as goal

-- If no first fault is returned, no worker had a fault.
none_told : (faults : List (Option SharedFault)) (told : Option SharedFault) → is_some told ≡ false → IsFirstFault faults told → All (λ (fault : Option SharedFault). fault ≡ None) faults
none_told faults None none first = first
none_told faults (Some fault) none first = cc

-- A worker without a fault has pushed all its numbers.
finished : (count worker : ℕ) (pushed : List ℕ) (fault : Option SharedFault) → fault ≡ None → HasPushed count worker pushed fault → pushed ≡ numbers (worker * count) count
finished count worker pushed fault none had =
    let all = subst (HasPushed count worker pushed) none had in all.1 ∙ ap (numbers (worker * count)) all.2

-- The two workers are the two writers.
pub returns : goal.returns
returns g c =
    let count = c.args.count in let told = c.in_ok-faults.ensures in let faults : List (Option SharedFault) = c.in_ok-faults.faults.items in
    let worked : HaveWorked count c.pass-pass.result.seen c.run_shared_into.new.pass.seen faults = told.pushed in
    let first : IsFirstFault faults c.first_fault.result = subst (λ (fs : List (Option SharedFault)). IsFirstFault fs c.first_fault.result) c.deref.ensures.value c.first_fault.ensures in
    let none = none_told faults c.first_fault.result (search rules) first in
    let all : (worker : ℕ) → worker < 2 → pushed_by (worked.writer worker) c.run_shared_into.new.pass.seen ≡ numbers (worker * count) count = λ worker below.
    let within : worker < length faults = omega (arith, told.each) in
    finished count worker _ _ (none worker None within) (worked.pushed worker None within) in
    let zero : 0 * count ≡ 0 = omega arith in let one : 1 * count ≡ count = omega arith in (
      worked.writer 0,
      worked.writer 1,
      (λ same. let e = worked.apart 0 1 same in omega arith),
      all 0 (omega arith) ∙ ap (λ (k : ℕ). numbers k count) zero,
      all 1 (omega arith) ∙ ap (λ (k : ℕ). numbers k count) one,
    )
