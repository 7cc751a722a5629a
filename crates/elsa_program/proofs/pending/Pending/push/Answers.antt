use Rattle.std.proofs.Common.{[], subst, sym}
use Rattle.elsa_program.specs.Devices.{Queues}
use Rattle.elsa_program.proofs.EngineLemmas.KnownBytes.{adds_both, adds_failed}
use Rattle.elsa_program.proofs.pending.Pending.push.Goals as goal

pub returns-in_err-flush-clause-adds : goal.returns-in_err-flush-clause-adds
returns-in_err-flush-clause-adds g c =
    adds_failed c.from_residual.result (g.W.Sink.held c.args.writer.now) (g.W.Sink.held c.flush.new.writer) c.args.self.now c.flush.new.self [] c.args.piece.now
    c.from_residual.ensures.0 c.in_err-flush.ensures.adds

pub returns-clause-adds : goal.returns-clause-adds
returns-clause-adds g c =
    let b = g.W.Sink.held c.flush.new.writer in
    let d = g.W.Sink.held c.write_all.new.writer in
    adds_both c.write_all.result (g.W.Sink.held c.args.writer.now) b d c.args.self.now c.flush.new.self c.flush.new.self [] c.args.piece.now c.in_ok-flush.ensures.adds
    (subst (λ t. Queues c.write_all.result b t d t c.args.piece.now) (sym c.in_ok-flush.ensures.none) c.write_all.ensures.adds)
