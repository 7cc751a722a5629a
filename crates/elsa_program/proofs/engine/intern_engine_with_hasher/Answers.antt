use Rattle.std.proofs.Common.{[], ◌<◌, refl, take, length, ◌∙◌, arith, rules}
use Rattle.std.proofs.KnownBytes.{Appends-nil, Consumes-nil, Keeps-refl}
use Rattle.std.proofs.lemmas.List.{length-take}
use Rattle.elsa_program.proofs.EngineLemmas.LinesOfChunks.{reached_new}
use Rattle.elsa_program.proofs.EngineLemmas.WholeRuns.{further, has_answered, has_answered_all, has_answered_last, has_answered_some}
use Rattle.elsa_program.proofs.engine.intern_engine_with_hasher.Goals as goal

pub loop-turn-init : goal.loop-turn-init
loop-turn-init g c = record {
  reads = refl;
  writes = refl;
  none = c.new-out.ensures;
  so_far = record {
    bytes = [];
    written = [];
    many = omega arith;
    consumed = Consumes-nil _;
    reached = reached_new _ _ _ c.new.ensures.names c.new-2.ensures.items refl;
    held = Appends-nil _;
  };
}

pub loop-turn-preserved : goal.loop-turn-preserved
loop-turn-preserved g c =
    let i = c.loop-turn.invariant in
    let l = c.loop-turn.session in
    let n = c.feed_bytes.new.self in
    let bound = c.in-Ok.ensures.within in
    let some : 0 < length (take c.in-Ok.n c.read.new.buf) = rw length-take (omega arith) in
    record {
      reads = c.in-Ok.ensures.succeeded ∙ i.reads;
      writes = c.in-Ok-feed_bytes.ensures.counts ∙ i.writes;
      none = c.in-Ok-feed_bytes.ensures.none;
      so_far = further _ c.loop-turn._turn (g.R.Source.left c.args.reader.now) (g.R.Source.left c.loop-turn.reader) (g.R.Source.left c.read.new.self)
          (g.W.Sink.held c.args.writer.now) (g.W.Sink.held c.loop-turn.writer) (g.W.Sink.held c.feed_bytes.new.writer)
          c.loop-turn.out c.feed_bytes.new.out l.line.items n.line.items (take c.in-Ok.n c.read.new.buf) l.names.0 n.names.0 l.skips n.skips
          i.so_far some c.in-Ok.ensures.bytes.0 c.in-Ok-feed_bytes.ensures.feeds i.none c.in-Ok-feed_bytes.ensures.none;
    }

pub returns-in_default-clause-answers : goal.returns-in_default-clause-answers
returns-in_default-clause-answers g c =
    let l = c.loop-turn.session in
    has_answered 0 c.loop-turn._turn (g.R.Source.left c.args.reader.now) (g.R.Source.left c.loop-turn.reader) (g.R.Source.left c.read.new.self)
    (g.W.Sink.held c.args.writer.now) (g.W.Sink.held c.loop-turn.writer)
    l.line.items l.names.0 l.skips c.loop-turn.invariant.so_far (omega arith) c.in_default.ensures.bytes

pub returns-in_default-end-clause-answers : goal.returns-in_default-end-clause-answers
returns-in_default-end-clause-answers g c =
    let i = c.loop-turn.invariant in
    let l = c.loop-turn.session in
    let room : 0 < length c.read.new.buf = search rules in
    has_answered_last _ c.loop-turn._turn c.in-Ok.n (g.R.Source.left c.args.reader.now) (g.R.Source.left c.loop-turn.reader) (g.R.Source.left c.read.new.self)
    (g.W.Sink.held c.args.writer.now) (g.W.Sink.held c.loop-turn.writer) (g.W.Sink.held c.end.new.writer)
    c.loop-turn.out c.end.new.out l.line.items c.read.new.buf l.names.0 l.skips
    i.so_far c.if-n-eq0.true c.in-Ok.ensures.bytes.0 (c.in-Ok.ensures.bytes.1 c.if-n-eq0.true room) c.in_default-end.ensures.ends i.none

pub returns-then-n-eq0-clause-answers : goal.returns-then-n-eq0-clause-answers
returns-then-n-eq0-clause-answers g c =
    let i = c.loop-turn.invariant in
    let l = c.loop-turn.session in
    let room : 0 < length c.read.new.buf = search rules in
    has_answered_all _ c.loop-turn._turn c.in-Ok.n (g.R.Source.left c.args.reader.now) (g.R.Source.left c.loop-turn.reader) (g.R.Source.left c.read.new.self)
    (g.W.Sink.held c.args.writer.now) (g.W.Sink.held c.loop-turn.writer) (g.W.Sink.held c.end.new.writer)
    c.loop-turn.out c.end.new.out l.line.items c.read.new.buf l.names.0 l.skips
    i.so_far c.if-n-eq0.true c.in-Ok.ensures.bytes.0 (c.in-Ok.ensures.bytes.1 c.if-n-eq0.true room) c.in-Ok-end.ensures.ends i.none c.in-Ok-end.ensures.none

pub returns-in_default-feed_bytes-clause-answers : goal.returns-in_default-feed_bytes-clause-answers
returns-in_default-feed_bytes-clause-answers g c =
    let i = c.loop-turn.invariant in
    let l = c.loop-turn.session in
    let n = c.feed_bytes.new.self in
    has_answered_some _ c.loop-turn._turn (g.R.Source.left c.args.reader.now) (g.R.Source.left c.loop-turn.reader) (g.R.Source.left c.read.new.self)
    (g.W.Sink.held c.args.writer.now) (g.W.Sink.held c.loop-turn.writer) (g.W.Sink.held c.feed_bytes.new.writer)
    c.loop-turn.out c.feed_bytes.new.out l.line.items n.line.items (take c.in-Ok.n c.read.new.buf) l.names.0 n.names.0 l.skips n.skips
    i.so_far c.in-Ok.ensures.bytes.0 c.in_default-feed_bytes.ensures.feeds i.none

pub returns-clause-answers : goal.returns-clause-answers
returns-clause-answers g c =
    let l = c.loop-turn.session in
    let done = c.loop-turn-test.false in
    has_answered 18446744073709551615 c.loop-turn._turn (g.R.Source.left c.args.reader.now) (g.R.Source.left c.loop-turn.reader) (g.R.Source.left c.loop-turn.reader) (g.W.Sink.held c.args.writer.now) (g.W.Sink.held c.loop-turn.writer)
    l.line.items l.names.0 l.skips c.loop-turn.invariant.so_far (omega arith) (Keeps-refl _)
