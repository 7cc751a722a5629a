use Rattle.std.proofs.Common.{◌≡◌, All, [], take}
use Rattle.elsa_history.proofs.record_pass.are_empty.Given as goal

-- The passes so far have no receipt.
abbrev pub invariant-loop-i : goal.invariant-loop-i
invariant-loop-i g l = All (λ p. p.1 ≡ []) (take l.i l.passes.items)
