use Rattle.std.proofs.Common.{◌≡◌, ◌≤◌, ◌++◌}
use Rattle.elsa_arena.proofs.vec.Hold.extend.Given as goal

abbrev pub invariant-loop-item : goal.invariant-loop-item
invariant-loop-item g l = record {
  vector : l.self.vector ≡ l.fn.self.vector;
  capacity : l.fn.self.capacity ≤ l.self.capacity;
  seen : l.self.seen ≡ l.fn.self.seen ++ l.yielded;
}
