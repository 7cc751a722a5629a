use Rattle.std.proofs.Common.{ℕ, ◌+◌, ◌<◌, arith}
use Rattle.elsa_program.proofs.EngineLemmas.LineEnds.{none_in_both, there_in_both}
use Rattle.elsa_program.proofs.chunk.line_end.Goals as goal

pub returns-then-next-lt16-clause-before : goal.returns-then-next-lt16-clause-before
returns-then-next-lt16-clause-before c = none_in_both c.args.piece.now 16 c.near_end-next.result (λ k l. c.near_end-near.ensures.before k (omega (arith, l, c.if-near-lt16.false))) c.near_end-next.ensures.before

pub returns-then-next-lt16-clause-line_end : goal.returns-then-next-lt16-clause-line_end
returns-then-next-lt16-clause-line_end c _ = there_in_both c.args.piece.now 16 c.near_end-next.result (c.near_end-next.ensures.line_end c.if-next-lt16.true)

pub far_end-requires-2-clause-before : goal.far_end-requires-2-clause-before
far_end-requires-2-clause-before c = none_in_both c.args.piece.now 16 16 (λ k l. c.near_end-near.ensures.before k (omega (arith, l, c.if-near-lt16.false))) (λ k l. c.near_end-next.ensures.before k (omega (arith, l, c.if-next-lt16.false)))
