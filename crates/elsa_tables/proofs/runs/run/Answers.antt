use Rattle.std.proofs.Common.{◌≡◌, ◌∙◌, ◌+◌, ap, arith, is_ok, if◌then◌else◌}
use Rattle.std.specs.Vec.{vec_len}
use Rattle.std.proofs.lemmas.List.{length_push}
use Rattle.elsa_tables.proofs.Replay.{answered_push}
use Rattle.elsa_tables.proofs.runs.run.Goals as goal

pub loop-command-preserved : goal.loop-command-preserved
loop-command-preserved g c =
    let n = length_push c.loop-command.yielded c.in-Some.command in
    let counted : vec_len c.push.new.self ≡ vec_len c.loop-command.replies + 1 = c.push.ensures.len ∙ ap (λ p. if is_ok p then vec_len c.loop-command.replies + 1 else vec_len c.loop-command.replies) c.unwrap.ensures in
    record {
      run = answered_push g.C.Call.steps _ _ _ _ _ _ _ _ _ _ c.loop-command.invariant.run c.answer-reply.ensures c.unwrap.ensures c.push.ensures.items;
      count = omega (arith, counted, n, c.loop-command.invariant.count);
      room = omega (arith, c.loop-command.invariant.room, c.push.ensures.capacity);
    }
