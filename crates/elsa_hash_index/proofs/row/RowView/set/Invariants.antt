use Rattle.std.proofs.Common.{◌≡◌}
use mathlib.Core.List.{IsPrefix}
use Rattle.elsa_hash_index.proofs.row.RowView.set.Given as goal

abbrev pub invariant-loop : goal.invariant-loop
invariant-loop g l =
    (l.self.row.now ≡ l.initial.self.row.now) × (l.self.seen.book ≡ l.initial.self.seen.book) × IsPrefix l.initial.self.seen.log l.self.seen.log
