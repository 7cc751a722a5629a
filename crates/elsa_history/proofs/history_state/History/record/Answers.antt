use Rattle.std.proofs.Common.{◌≡◌, length, ap, arith}
use Rattle.elsa_tables.proofs.Replay.{recorded_last}
use Rattle.elsa_history.proofs.history_state.History.record.Goals as goal

pub returns-clause-recorded : goal.returns-clause-recorded
returns-clause-recorded g c =
    let e : c.len-index.result ≡ length c.self.inside.entries.items = omega (arith, c.len-index.ensures, ap length c.in_ok-reserve.ensures.items) in
    rw e (recorded_last g.C.Core.steps (g.S.Start.start g.C.Core.state g.C.Core.opening) c.self.inside.entries.items _ (c.args.number, c.args.command, c.in_ok-reply.reply) _ c.self.invariant c.in_ok-reply.ensures.step)
