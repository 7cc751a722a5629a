use Rattle.std.proofs.Common.{take}
use Rattle.elsa_program.specs.Workers.{IsFirstFault}
use Rattle.elsa_program.proofs.shared.first_fault.Given as goal

-- The first of the faults so far.
abbrev pub invariant-loop-fault : goal.invariant-loop-fault
invariant-loop-fault l = IsFirstFault (take l.fault-index l.faults) l.first
