use Rattle.std.proofs.Common.{[], ◌∷◌, ◌++◌, ◌<◌, length, subst, rules}
use Rattle.std.proofs.lemmas.Result.{MatchResult-from_err}
use Rattle.elsa_program.specs.Replies.{reply_text}
use Rattle.elsa_program.proofs.EngineLemmas.KnownBytes.{adds_flushed}
use Rattle.elsa_program.proofs.EngineLemmas.LinesOfChunks.{ends_line}
use Rattle.elsa_program.proofs.engine.Session.end.Goals as goal
use Rattle.elsa_program.proofs.engine.Session.end.Goals.{else-not-self-via-then-not-self+else-is_empty, else-not-self-via-else-not-self}

pub returns-in_err-push_reply-clause-ends : goal.returns-in_err-push_reply-clause-ends
returns-in_err-push_reply-clause-ends g c =
    let s = c.args.self.now in
    let n = c.finish_begun-answer.new.self in
    ends_line c.from_residual.result s.line.items n.line.items (reply_text c.finish_begun-answer.result) s.names.0 n.names.0 s.skips n.skips
    (g.W.Sink.held c.args.writer.now) (g.W.Sink.held c.push_reply.new.writer) c.args.out.now c.push_reply.new.out
    c.finish_begun-answer.ensures (λ tail so. elim c.else-not-self.branch [ else-not-self-via-then-not-self+else-is_empty w ↦ subst (λ t. 0 < length t) (so.kept w.if-not-self.true) (search rules) | else-not-self-via-else-not-self w ↦ so.some w.if-not-self.false ]) (MatchResult-from_err _ _ _ c.from_residual.ensures.0 (λ _. c.in_err-push_reply.ensures.adds))

pub returns-clause-ends : goal.returns-clause-ends
returns-clause-ends g c =
    let s = c.args.self.now in
    let n = c.finish_begun-answer.new.self in
    let a = g.W.Sink.held c.args.writer.now in
    let b = g.W.Sink.held c.flush.new.writer in
    ends_line c.flush.result s.line.items n.line.items (reply_text c.finish_begun-answer.result) s.names.0 n.names.0 s.skips n.skips a b c.args.out.now c.flush.new.self
    c.finish_begun-answer.ensures (λ tail so. elim c.else-not-self.branch [ else-not-self-via-then-not-self+else-is_empty w ↦ subst (λ t. 0 < length t) (so.kept w.if-not-self.true) (search rules) | else-not-self-via-else-not-self w ↦ so.some w.if-not-self.false ])
    (adds_flushed c.flush.result a (g.W.Sink.held c.push_reply.new.writer) b c.args.out.now c.push_reply.new.out c.flush.new.self
    (reply_text c.finish_begun-answer.result ++ 10 ∷ []) c.in_ok-push_reply.ensures.adds c.flush.ensures.adds)
