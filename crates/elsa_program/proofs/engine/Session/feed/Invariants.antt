use Rattle.std.proofs.Common.{◌≡◌, List, ℕ, Bool, length, Option, false, []}
use Rattle.std.specs.Prelude.{Result}
use Rattle.elsa_program.specs.Feeding.{Feeds}
use Rattle.elsa_program.specs.declared.devices.Failed.{Failed}
use Rattle.elsa_program.proofs.engine.Session.feed.Given as goal

-- If the rest of the chunk is read from the present state, the chunk was read from the first state.
abbrev pub invariant-loop-line : goal.invariant-loop-line
invariant-loop-line g l = record {
  fresh : (l.self.skips ≡ false) × (l.self.line.items ≡ []);
  calm : g.W.Sink.failures l.writer ≡ g.W.Sink.failures l.fn.writer;
  feeds : (r : Result (Unit {0}) Failed) (names : List (List ℕ)) (line : List ℕ) (skips : Bool) (new : Option (List ℕ)) (waits : List ℕ)
      → Feeds r l.self.names.0 l.self.line.items l.self.skips (g.C.Chunk.bytes l.rest) names line skips (g.W.Sink.held l.writer) l.out new waits
      → Feeds r l.fn.self.names.0 l.fn.self.line.items l.fn.self.skips (g.C.Chunk.bytes l.fn.chunk) names line skips (g.W.Sink.held l.fn.writer) l.fn.out new waits;
}

abbrev pub decreases-loop-line : goal.decreases-loop-line
decreases-loop-line g l = length (g.C.Chunk.bytes l.rest)
