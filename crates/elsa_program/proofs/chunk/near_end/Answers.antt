use Rattle.elsa_program.proofs.EngineLemmas.LineEnds.{near_before, near_there, near_within, none_near}
use Rattle.elsa_program.proofs.chunk.near_end.Goals as goal

pub returns-then-ends-eq0-clause-before : goal.returns-then-ends-eq0-clause-before
returns-then-ends-eq0-clause-before c = none_near c.args.piece.now c.requires c.if-ends-eq0.true

pub returns-clause-within : goal.returns-clause-within
returns-clause-within c = near_within c.args.piece.now c.requires c.if-ends-eq0.false

pub returns-clause-before : goal.returns-clause-before
returns-clause-before c = near_before c.args.piece.now c.requires c.if-ends-eq0.false

pub returns-clause-line_end : goal.returns-clause-line_end
returns-clause-line_end c = near_there c.args.piece.now c.requires c.if-ends-eq0.false
