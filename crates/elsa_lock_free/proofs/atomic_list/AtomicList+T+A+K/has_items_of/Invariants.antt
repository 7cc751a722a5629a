use Rattle.std.proofs.Common.{◌≡◌, ◌≤◌, ◌-◌, drop, ◌&&◌}
use lib.Pointwise.{pointwise}
use Rattle.elsa_lock_free.proofs.atomic_list.AtomicList+T+A+K.has_items_of.Given as goal

-- the items are equal exactly if those compared so far are, and those from the index on
abbrev pub invariant-loop-equal : goal.invariant-loop-equal
invariant-loop-equal g l =
    (l.index ≤ l.n) × (pointwise g.T.PartialEq.eq l.prefix.items l.other_prefix.items ≡ (l.equal && pointwise g.T.PartialEq.eq (drop l.index l.prefix.items) (drop l.index l.other_prefix.items)))

-- fewer indices are left each time
abbrev pub decreases-loop-equal : goal.decreases-loop-equal
decreases-loop-equal g l = l.n - l.index
