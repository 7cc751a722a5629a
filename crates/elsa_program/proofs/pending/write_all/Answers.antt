use Rattle.std.proofs.Common.{◌∙◌, arith, refl}
use Rattle.std.proofs.KnownBytes.{Appends-nil}
use Rattle.std.proofs.lemmas.List.{append-nil, length-drop, take_all, take_rest}
use Rattle.std.proofs.lemmas.Result.{MatchResult-from_err}
use Rattle.elsa_program.proofs.EngineLemmas.KnownBytes.{appends_more, some_of_take}
use Rattle.elsa_program.proofs.pending.write_all.Goals as goal

pub loop-at-init : goal.loop-at-init
loop-at-init g c = record { some = Appends-nil _; calm = refl; within = omega arith }

pub loop-at-preserved : goal.loop-at-preserved
loop-at-preserved g c =
    let whole = take_rest c.args.piece.now c.loop-at.at in
    let bytes = rw whole at c.in_ok-at.ensures.bytes in
    let bound = rw whole at c.in_ok-at.ensures.within in
    record {
      some = appends_more (g.W.Sink.held c.args.writer.now) (g.W.Sink.held c.loop-at.writer) _ c.args.piece.now c.loop-at.at c.in_ok-at.field-0 c.loop-at.invariant.some bytes;
      calm = c.in_ok-at.ensures.succeeded ∙ c.loop-at.invariant.calm;
      within = let at_most = rw length-drop at bound in omega arith;
    }

pub returns-in_err-at-clause-adds : goal.returns-in_err-at-clause-adds
returns-in_err-at-clause-adds g c =
    MatchResult-from_err _ _ _ c.from_residual.ensures.0
    (λ _. some_of_take (g.W.Sink.held c.args.writer.now) (g.W.Sink.held c.loop-at.writer) (g.W.Sink.held c.write.new.self) c.args.piece.now c.loop-at.at c.loop-at.invariant.some c.in_err-at.ensures.bytes)

pub returns-clause-adds : goal.returns-clause-adds
returns-clause-adds g c = (_, c.loop-at.invariant.some, append-nil _ ∙ take_all c.loop-at.at c.args.piece.now (omega arith))
