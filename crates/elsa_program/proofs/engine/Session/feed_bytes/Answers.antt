use Rattle.std.proofs.Common.{ap}
use Rattle.elsa_program.specs.Replies.{reply_text}
use Rattle.elsa_program.proofs.EngineLemmas.LinesOfChunks.{feeds_line, feeds_stop, feeds_tail}
use Rattle.elsa_program.proofs.engine.Session.feed_bytes.Goals as goal
use Rattle.elsa_program.proofs.engine.Session.feed_bytes.Goals.{then-self+in-Some+in_ok-push_reply, else-self+else-not-is_empty}

pub returns-in_default-clause-feeds : goal.returns-in_default-clause-feeds
returns-in_default-clause-feeds g c =
    let s = c.args.self.now in
    let n = c.keep.new.self in
    feeds_tail c.flush.result c.args.piece.now s.line.items n.line.items s.names.0 n.names.0 s.skips n.skips (g.W.Sink.held c.args.writer.now) (g.W.Sink.held c.flush.new.writer) c.args.out.now c.flush.new.self
    c.in_default.ensures c.keep.ensures.line (ap (λ v. v.0) c.keep.ensures.names) c.flush.ensures.adds

pub returns-in_err-push_reply-clause-feeds : goal.returns-in_err-push_reply-clause-feeds
returns-in_err-push_reply-clause-feeds g c =
    let s = c.args.self.now in
    let n = c.finish_begun-answer.new.self in
    feeds_stop c.from_residual.result c.args.piece.now c.in-Some.end.now c.in-Some.later.now (reply_text c.finish_begun-answer.result) s.line.items n.line.items _ s.names.0 n.names.0 _ s.skips n.skips _
    (g.W.Sink.held c.args.writer.now) (g.W.Sink.held c.push_reply.new.writer) c.args.out.now _
    c.from_residual.ensures.0 c.in-Some.ensures.1 c.in-Some.ensures.0 c.finish_begun-answer.ensures c.in_err-push_reply.ensures.adds

-- The line that had begun gets its reply, and then the rest of the piece is read.
pub returns-in-Ok-clause-feeds : goal.returns-in-Ok-clause-feeds
returns-in-Ok-clause-feeds g c =
    let s = c.args.self.now in
    let fed = rw c.in-Ok.ensures.cases.0 at c.feed_ahead.ensures.feeds in
    elim c.if-self.branch [
      | then-self+in-Some+in_ok-push_reply w ↦
          let n = w.finish_begun-answer.new.self in
          feeds_line c.feed_ahead.result c.args.piece.now w.in-Some.end.now w.in-Some.later.now (reply_text w.finish_begun-answer.result) s.line.items n.line.items _ s.names.0 n.names.0 _ s.skips n.skips _
          (g.W.Sink.held c.args.writer.now) (g.W.Sink.held w.push_reply.new.writer) _ c.args.out.now w.push_reply.new.out _
          w.in-Some.ensures.1 w.in-Some.ensures.0 w.finish_begun-answer.ensures w.in_ok-push_reply.ensures.adds
          (rw (w.self-is, w.out-is, w.writer-is, w.rest-is) at fed)
      | else-self+else-not-is_empty w ↦ rw (w.self-is, w.out-is, w.writer-is, w.rest-is) at fed
    ]

pub returns-in-Ok-2-clause-feeds : goal.returns-in-Ok-2-clause-feeds
returns-in-Ok-2-clause-feeds g c =
    let s = c.args.self.now in
    let fed = rw c.in-Ok.ensures.cases.0 at c.feed.ensures.feeds in
    elim c.if-self.branch [
      | then-self+in-Some+in_ok-push_reply w ↦
          let n = w.finish_begun-answer.new.self in
          feeds_line c.feed.result c.args.piece.now w.in-Some.end.now w.in-Some.later.now (reply_text w.finish_begun-answer.result) s.line.items n.line.items _ s.names.0 n.names.0 _ s.skips n.skips _
          (g.W.Sink.held c.args.writer.now) (g.W.Sink.held w.push_reply.new.writer) _ c.args.out.now w.push_reply.new.out _
          w.in-Some.ensures.1 w.in-Some.ensures.0 w.finish_begun-answer.ensures w.in_ok-push_reply.ensures.adds
          (rw (w.self-is, w.out-is, w.writer-is, w.rest-is) at fed)
      | else-self+else-not-is_empty w ↦ rw (w.self-is, w.out-is, w.writer-is, w.rest-is) at fed
    ]

pub returns-in-Err-clause-feeds : goal.returns-in-Err-clause-feeds
returns-in-Err-clause-feeds g c =
    let s = c.args.self.now in
    let fed = c.feed-in-Err.ensures.feeds in
    elim c.if-self.branch [
      | then-self+in-Some+in_ok-push_reply w ↦
          let n = w.finish_begun-answer.new.self in
          feeds_line c.feed-in-Err.result c.args.piece.now w.in-Some.end.now w.in-Some.later.now (reply_text w.finish_begun-answer.result) s.line.items n.line.items _ s.names.0 n.names.0 _ s.skips n.skips _
          (g.W.Sink.held c.args.writer.now) (g.W.Sink.held w.push_reply.new.writer) _ c.args.out.now w.push_reply.new.out _
          w.in-Some.ensures.1 w.in-Some.ensures.0 w.finish_begun-answer.ensures w.in_ok-push_reply.ensures.adds
          (rw (w.self-is, w.out-is, w.writer-is, w.rest-is) at fed)
      | else-self+else-not-is_empty w ↦ rw (w.self-is, w.out-is, w.writer-is, w.rest-is) at fed
    ]
