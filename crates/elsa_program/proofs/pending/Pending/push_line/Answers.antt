use Rattle.std.proofs.Common.{[], ◌∷◌}
use Rattle.elsa_program.proofs.EngineLemmas.KnownBytes.{adds_both, adds_failed}
use Rattle.elsa_program.proofs.pending.Pending.push_line.Goals as goal

pub returns-in_err-push-clause-adds : goal.returns-in_err-push-clause-adds
returns-in_err-push-clause-adds g c =
    adds_failed c.from_residual.result (g.W.Sink.held c.args.writer.now) (g.W.Sink.held c.push.new.writer) c.args.self.now c.push.new.self c.args.piece.now (10 ∷ []) c.from_residual.ensures.0 c.in_err-push.ensures.adds

pub returns-clause-adds : goal.returns-clause-adds
returns-clause-adds g c =
    adds_both c.push-2.result (g.W.Sink.held c.args.writer.now) (g.W.Sink.held c.push.new.writer) (g.W.Sink.held c.push-2.new.writer) c.args.self.now c.push.new.self c.push-2.new.self c.args.piece.now (10 ∷ [])
    c.in_ok-push.ensures.adds c.push-2.ensures.adds
