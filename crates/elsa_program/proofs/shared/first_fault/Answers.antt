use Rattle.std.proofs.Common.{List, None, Option, get_or, subst, sym, take}
use Rattle.std.proofs.lemmas.List.{take_more}
use Rattle.elsa_program.specs.declared.shared.SharedFault.{SharedFault}
use Rattle.elsa_program.specs.Workers.{IsFirstFault}
use Rattle.elsa_program.proofs.Faults.{first_more}
use Rattle.elsa_program.proofs.shared.first_fault.Goals as goal

-- The first of the first fault so far and the next one is the first of all.
pub loop-fault-preserved : goal.loop-fault-preserved
loop-fault-preserved c =
    let faults = c.args.faults.now in let i = c.loop-fault.fault-index in let first = c.earlier-first.result in
    subst (λ (fs : List (Option SharedFault)). IsFirstFault fs first) (sym (take_more faults i None c.loop-fault-test.true))
    (first_more (take i faults) c.loop-fault.first (get_or faults i None) first c.loop-fault.invariant c.earlier-first.ensures)
