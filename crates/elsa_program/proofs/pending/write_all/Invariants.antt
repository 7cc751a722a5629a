use Rattle.std.proofs.Common.{length, take, ◌-◌, ◌≡◌, ◌≤◌}
use Rattle.std.specs.Io.KnownBytes.{Appends}
use Rattle.elsa_program.proofs.pending.write_all.Given as goal

abbrev pub invariant-loop-at : goal.invariant-loop-at
invariant-loop-at g l = record {
  some : Appends (g.W.Sink.held l.fn.writer) (g.W.Sink.held l.writer) (take l.at l.piece);
  calm : g.W.Sink.failures l.writer ≡ g.W.Sink.failures l.fn.writer;
  within : l.at ≤ length l.piece;
}

abbrev pub decreases-loop-at : goal.decreases-loop-at
decreases-loop-at g l = length l.piece - l.at
