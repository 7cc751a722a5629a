use Rattle.std.proofs.Common.{◌≡◌, ◌≤◌, length}
use Rattle.std.specs.Vec.{vec_len, vec_capacity}
use Rattle.elsa_tables.specs.Replay.{Answered}
use Rattle.elsa_tables.proofs.runs.run.Given as goal

abbrev pub invariant-loop-command : goal.invariant-loop-command
invariant-loop-command g l = record {
  run : Answered g.C.Call.steps (g.C.Call.state l.fn.object) l.yielded l.replies.items (g.C.Call.state l.object);
  count : vec_len l.replies ≡ length l.yielded;
  room : vec_len l.fn.commands ≤ vec_capacity l.replies;
}
