use Rattle.std.proofs.Common.{◌≡◌, ℕ, Some, slice_get, take}
use Rattle.elsa_history.specs.declared.record_pass.TheConstants.{NOBODY}
use Rattle.elsa_history.specs.Receipts.{receipts_for}
use Rattle.elsa_history.proofs.record_pass.note_owner.Given as goal

-- If an index has the number `NOBODY`, it had it before, and no receipt so far is for it.
abbrev pub invariant-loop-receipt : goal.invariant-loop-receipt
invariant-loop-receipt g l =
    (index : ℕ) → slice_get l.owners.items index ≡ Some NOBODY → (slice_get l.fn.owners.items index ≡ Some NOBODY) × (receipts_for index (take l.receipt-index l.receipts) ≡ 0)
