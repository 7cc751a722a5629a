use Rattle.std.proofs.Common.{◌≡◌, []}
use Rattle.elsa_program.proofs.EngineLemmas.WholeRuns.{Further}
use Rattle.elsa_program.proofs.engine.intern_engine_with_hasher.Given as goal

abbrev pub invariant-loop-turn : goal.invariant-loop-turn
invariant-loop-turn g l = record {
  reads : g.R.Source.failures l.reader ≡ g.R.Source.failures l.fn.reader;
  writes : g.W.Sink.failures l.writer ≡ g.W.Sink.failures l.fn.writer;
  none : l.out ≡ [];
  so_far : Further l._turn (g.R.Source.left l.fn.reader) (g.R.Source.left l.reader) (g.W.Sink.held l.fn.writer) (g.W.Sink.held l.writer) l.session.names.0 l.session.line.items l.session.skips;
}
