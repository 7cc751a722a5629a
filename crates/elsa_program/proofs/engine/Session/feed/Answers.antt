use Rattle.std.proofs.Common.{ap, ◌∙◌, rules}
use Rattle.elsa_program.specs.Feeding.{IsFinished}
use Rattle.elsa_program.specs.Replies.{reply_text}
use Rattle.elsa_program.proofs.EngineLemmas.LinesOfChunks.{feeds_line, feeds_stop, feeds_tail}
use Rattle.elsa_program.proofs.engine.Session.feed.Goals as goal

pub loop-line-preserved : goal.loop-line-preserved
loop-line-preserved g c =
    let l = c.loop-line.self in
    let named = c.answer_to-answer.new.names.0 in
    let i = c.loop-line.invariant in
    let ends = c.in-Some.line-1-given.0.0 in
    let finished : IsFinished l.names.0 l.line.items l.skips (g.C.Chunk.bytes ends.0) (reply_text c.answer_to-answer.result) named l.line.items l.skips = search rules in
    record {
      fresh = i.fresh;
      calm = c.in_ok-push_reply.ensures.counts ∙ i.calm;
      feeds = λ r names line skips new waits feeds. i.feeds r names line skips new waits
          (feeds_line r (g.C.Chunk.bytes c.loop-line.rest) (g.C.Chunk.bytes ends.0) (g.C.Chunk.bytes ends.1) (reply_text c.answer_to-answer.result) l.line.items l.line.items line l.names.0 named names l.skips l.skips skips
          (g.W.Sink.held c.loop-line.writer) (g.W.Sink.held c.push_reply.new.writer) new c.loop-line.out c.push_reply.new.out waits
          c.in-Some.ensures.1 c.in-Some.ensures.0 finished c.in_ok-push_reply.ensures.adds feeds);
    }

pub returns-in_err-push_reply-clause-feeds : goal.returns-in_err-push_reply-clause-feeds
returns-in_err-push_reply-clause-feeds g c =
    let l = c.loop-line.self in
    let named = c.answer_to-answer.new.names.0 in
    let ends = c.in-Some.line-1-given.0.0 in
    let finished : IsFinished l.names.0 l.line.items l.skips (g.C.Chunk.bytes ends.0) (reply_text c.answer_to-answer.result) named l.line.items l.skips = search rules in
    c.loop-line.invariant.feeds _ _ _ _ _ _
    (feeds_stop c.from_residual.result (g.C.Chunk.bytes c.loop-line.rest) (g.C.Chunk.bytes ends.0) (g.C.Chunk.bytes ends.1) (reply_text c.answer_to-answer.result) l.line.items l.line.items _ l.names.0 named _ l.skips l.skips _
    (g.W.Sink.held c.loop-line.writer) (g.W.Sink.held c.push_reply.new.writer) c.loop-line.out _
    c.from_residual.ensures.0 c.in-Some.ensures.1 c.in-Some.ensures.0 finished c.in_err-push_reply.ensures.adds)

pub returns-clause-feeds : goal.returns-clause-feeds
returns-clause-feeds g c =
    let l = c.loop-line.self in
    let n = c.keep.new.self in
    c.loop-line.invariant.feeds _ _ _ _ _ _
    (feeds_tail c.flush.result (g.C.Chunk.bytes c.loop-line.rest) l.line.items n.line.items l.names.0 n.names.0 l.skips n.skips (g.W.Sink.held c.loop-line.writer) (g.W.Sink.held c.flush.new.writer) c.loop-line.out c.flush.new.self
    c.in_default.ensures (rw c.as_bytes.ensures at c.keep.ensures.line) (ap (λ v. v.0) c.keep.ensures.names) c.flush.ensures.adds)
