use Rattle.std.proofs.Common.{take}
use Rattle.elsa_history.specs.declared.record_pass.TheConstants.{NOBODY}
use Rattle.elsa_history.specs.Receipts.{KnowsWhoLacks}
use Rattle.elsa_history.proofs.record_pass.owners_of.Given as goal

-- If an index has the number `NOBODY`, no pass so far has a receipt for it.
abbrev pub invariant-loop-i : goal.invariant-loop-i
invariant-loop-i g l = KnowsWhoLacks NOBODY l.owners.items (take l.i l.passes.items)
