use Rattle.std.proofs.Common.{◌+◌, ap, sym, subst, ◌∙◌, drop, take, arith, rules}
use Rattle.elsa_program.specs.Ahead.{AreCut}
use Rattle.elsa_program.specs.Feeding.{Feeds, IsInside}
use Rattle.elsa_program.specs.Lines.{Replies}
use Rattle.elsa_interner.specs.Names.{text_hash}
use Rattle.elsa_program.specs.Replies.{reply_text}
use Rattle.elsa_program.proofs.AheadLemmas.{cut_done, cut_next, cut_shorter, finished_whole}
use Rattle.elsa_program.proofs.EngineLemmas.LinesOfChunks.{feeds_line, feeds_stop, feeds_tail}
use Rattle.elsa_program.proofs.engine.Session.feed_ahead.Goals as goal

pub answer_to-answer-requires : goal.answer_to-answer-requires
answer_to-answer-requires g c =
    let l = c.loop-i in
    let held = c.cut_ahead-count.new.held in
    let count = c.cut_ahead-count.result.0 in
    let next = cut_next (text_hash g.S.BuildHasher g.S.Hasher.Hasher l.self.names.1) held count l.i _ l.invariant.left c.cut_ahead-count.result.1.now
    c.loop-i-test.true (omega (arith, c.cut_ahead-count.ensures.array, c.cut_ahead-count.ensures.count)) l.invariant.cut in
    record { hashed = next.5 }

pub returns-in_err-push_reply-clause-feeds : goal.returns-in_err-push_reply-clause-feeds
returns-in_err-push_reply-clause-feeds g c =
    let l = c.loop-i in
    let held = c.cut_ahead-count.new.held in
    let count = c.cut_ahead-count.result.0 in
    let next = cut_next (text_hash g.S.BuildHasher g.S.Hasher.Hasher l.self.names.1) held count l.i _ l.invariant.left c.cut_ahead-count.result.1.now
    c.loop-i-test.true (omega (arith, c.cut_ahead-count.ensures.array, c.cut_ahead-count.ensures.count)) l.invariant.cut in
    let answer = reply_text c.answer_to-answer.result in
    let named = c.answer_to-answer.new.names.0 in
    let answers = subst (λ command. Replies l.self.names.0 command answer named) next.4 c.answer_to-answer.ensures.replies in
    let finished = finished_whole l.self.names.0 named l.self.line.items next.0 answer l.self.skips l.invariant.fresh answers in
    l.invariant.feeds _ _ _ _ _ _
    (feeds_stop c.from_residual.result l.invariant.left next.0 next.1 answer l.self.line.items l.self.line.items _ l.self.names.0 named _ l.self.skips l.self.skips _
    (g.W.Sink.held l.writer) (g.W.Sink.held c.push_reply.new.writer) l.out _
    c.from_residual.ensures.0 next.2 next.3 finished c.in_err-push_reply.ensures.adds)

pub loop-i-preserved : goal.loop-i-preserved
loop-i-preserved g c =
    let l = c.loop-i in
    let held = c.cut_ahead-count.new.held in
    let count = c.cut_ahead-count.result.0 in
    let rest = c.cut_ahead-count.result.1.now in
    let next = cut_next (text_hash g.S.BuildHasher g.S.Hasher.Hasher l.self.names.1) held count l.i _ l.invariant.left rest
    c.loop-i-test.true (omega (arith, c.cut_ahead-count.ensures.array, c.cut_ahead-count.ensures.count)) l.invariant.cut in
    let answer = reply_text c.answer_to-answer.result in
    let named = c.answer_to-answer.new.names.0 in
    let answers = subst (λ command. Replies l.self.names.0 command answer named) next.4 c.answer_to-answer.ensures.replies in
    let finished = finished_whole l.self.names.0 named l.self.line.items next.0 answer l.self.skips l.invariant.fresh answers in
    record {
      fresh = l.invariant.fresh;
      calm = c.in_ok-push_reply.ensures.counts ∙ l.invariant.calm;
      left = next.1;
      cut = subst (λ b. AreCut (text_hash g.S.BuildHasher g.S.Hasher.Hasher b) (drop (l.i + 1) (take count held)) next.1 rest) (sym c.answer_to-answer.ensures.builder) next.6;
      feeds = λ r names line skips new waits feeds. l.invariant.feeds r names line skips new waits
          (feeds_line r l.invariant.left next.0 next.1 answer l.self.line.items l.self.line.items line l.self.names.0 named names l.self.skips l.self.skips skips
          (g.W.Sink.held l.writer) (g.W.Sink.held c.push_reply.new.writer) new l.out c.push_reply.new.out waits
          next.2 next.3 finished c.in_ok-push_reply.ensures.adds feeds);
    }

pub loop-held-smaller : goal.loop-held-smaller
loop-held-smaller g c =
    let held = c.cut_ahead-count.new.held in
    cut_shorter _ held c.cut_ahead-count.result.0 c.loop-held.rest.now c.cut_ahead-count.result.1.now
    (omega (arith, c.if-count-eq0.false)) (omega (arith, c.cut_ahead-count.ensures.array, c.cut_ahead-count.ensures.count)) c.cut_ahead-count.ensures.cut

pub loop-held-preserved : goal.loop-held-preserved
loop-held-preserved g c =
    let l = c.loop-i in
    let held = c.cut_ahead-count.new.held in
    let count = c.cut_ahead-count.result.0 in
    let done = cut_done _ held count l.i l.invariant.left c.cut_ahead-count.result.1.now
    (omega (arith, c.loop-i-test.false)) (omega (arith, c.cut_ahead-count.ensures.array, c.cut_ahead-count.ensures.count)) l.invariant.cut in
    record {
      utf8 = search rules;
      many = c.cut_ahead-count.ensures.array;
      fresh = l.invariant.fresh;
      calm = l.invariant.calm;
      feeds = λ r names line skips new waits feeds. l.invariant.feeds r names line skips new waits
          (subst (λ t. Feeds r l.self.names.0 l.self.line.items l.self.skips t names line skips (g.W.Sink.held l.writer) l.out new waits) (sym done) feeds);
    }

pub returns-clause-feeds : goal.returns-clause-feeds
returns-clause-feeds g c =
    let l = c.loop-held in
    let n = c.keep.new.self in
    let held = c.cut_ahead-count.new.held in
    let done = cut_done _ held c.cut_ahead-count.result.0 0 l.rest.now c.cut_ahead-count.result.1.now
    (omega (arith, c.if-count-eq0.true)) (omega (arith, c.if-count-eq0.true)) c.cut_ahead-count.ensures.cut in
    let inside = subst IsInside (sym done) (c.cut_ahead-count.ensures.none c.if-count-eq0.true) in
    l.invariant.feeds _ _ _ _ _ _
    (feeds_tail c.flush.result l.rest.now l.self.line.items n.line.items l.self.names.0 n.names.0 l.self.skips n.skips (g.W.Sink.held l.writer) (g.W.Sink.held c.flush.new.writer) l.out c.flush.new.self
    inside (rw c.as_bytes.ensures.value at c.keep.ensures.line) (ap (λ v. v.0) c.keep.ensures.names) c.flush.ensures.adds)
