use Rattle.std.proofs.Common.{All, take}
use Rattle.elsa_history.specs.Receipts.{EndsElsewhere}
use Rattle.elsa_history.proofs.record_pass.find_pass.Given as goal

-- No pass so far ends at the index.
abbrev pub invariant-loop-i : goal.invariant-loop-i
invariant-loop-i g l = All (λ p. EndsElsewhere l.index p.1) (take l.i l.passes.items)
