use Rattle.std.proofs.Common.{ℕ, ◌≡◌, ◌≤◌, ◌+◌, ◌-◌, ◌<◌, true, length, sym, subst, arith}
use Rattle.std.proofs.lemmas.Bool.{false_from_ne_true}
use Rattle.elsa_program.proofs.EngineLemmas.LineEnds.{none_in_both}
use Rattle.elsa_program.proofs.chunk.far_end.Goals as goal

pub returns-in-Some-clause-before : goal.returns-in-Some-clause-before
returns-in-Some-clause-before c = none_in_both c.args.piece.now c.args.start c.in-Some.further c.requires.before (λ k l. false_from_ne_true _ (c.in-Some.ensures.0.before k (omega arith) l))

pub returns-in-None-clause-before : goal.returns-in-None-clause-before
returns-in-None-clause-before c k l = none_in_both c.args.piece.now c.args.start (length c.args.piece.now - c.args.start) c.requires.before (λ i m. false_from_ne_true _ (c.in-None.ensures i (omega arith) (omega (arith, m)))) k (omega (arith, l, c.requires.within))
