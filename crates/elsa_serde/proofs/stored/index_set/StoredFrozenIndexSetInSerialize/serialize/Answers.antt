use Rattle.std.proofs.Common.{◌≡◌, length, Some, subst, rules}
use Rattle.std.proofs.lemmas.Result.{on_ok_weaker}
use Rattle.serde.specs.Event.{Logs, seq_begins}
use Rattle.serde.proofs.Events.{WritesUpTo-start, WritesUpTo-more, WritesUpTo-all}
use Rattle.elsa_serde.proofs.stored.index_set.StoredFrozenIndexSetInSerialize.serialize.Goals as goal

pub loop-value-init : goal.loop-value-init
loop-value-init g c = WritesUpTo-start g.T.Borrow.Described.writes _ _ _ (search rules)

pub loop-value-preserved : goal.loop-value-preserved
loop-value-preserved g c = WritesUpTo-more g.T.Borrow.Described.writes _ _ _ c.in-Some.value.now _ _ _ c.loop-value.invariant c.in-Some.ensures.steps c.in_ok-serialize.ensures

pub returns : goal.returns
returns g c =
    let len : c.len.result ≡ length c.args.self.now.0.now = search rules in
    let begun = subst (λ n. Logs (g.S.Serializer.written c.args.out.now) (g.S.Serializer.written c.begin_seq.new.self) (seq_begins (Some n))) len c.in_ok-begin_seq.ensures in
    let each = WritesUpTo-all g.T.Borrow.Described.writes _ _ _ _ c.loop-value.invariant c.in-None.ensures.steps.0 in
    on_ok_weaker c.end_seq.result (λ ended. (_, _, begun, each, ended)) c.end_seq.ensures
