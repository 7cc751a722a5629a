use Rattle.std.proofs.Common.{◌≡◌, ◌+◌, ◌≤◌, ◌↔◌, length, take}
use Rattle.elsa_history.specs.declared.record_pass.TheConstants.{NOBODY}
use Rattle.elsa_history.specs.Receipts.{AreOf, KnowsWhoLacks, receipt_count}
use Rattle.elsa_history.proofs.record_pass.count_receipts.Given as goal

-- The removed receipts are counted; the passes belong to the whole history exactly if the remaining
-- receipts belong to the remaining entries; and no pass has a receipt for an index with the number
-- `NOBODY`.
abbrev pub invariant-loop-left : goal.invariant-loop-left
invariant-loop-left g l =
    (l.count + l.left ≤ length l.entries)
    × (receipt_count l.passes.items + l.count ≡ receipt_count l.fn.passes.items)
    × (AreOf g.C.Command.PartialEq.eq g.C.Reply.PartialEq.eq l.passes.items (take l.left l.entries) ↔ AreOf g.C.Command.PartialEq.eq g.C.Reply.PartialEq.eq l.fn.passes.items l.entries)
    × KnowsWhoLacks NOBODY l.owners.items l.passes.items

-- The number of remaining entries decreases.
abbrev pub decreases-loop-left : goal.decreases-loop-left
decreases-loop-left g l = l.left
