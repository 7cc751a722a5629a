use Rattle.std.proofs.Common.{◌≡◌, length, Some, subst, rules}
use Rattle.std.proofs.lemmas.Result.{on_ok_weaker}
use Rattle.serde.specs.Event.{Logs, map_begins, WritesEntry}
use Rattle.serde.proofs.Events.{WritesUpTo-start, WritesUpTo-more, WritesUpTo-all}
use Rattle.elsa_serde.proofs.stored.ordered.StoredFrozenBTreeMapInSerialize.serialize.Goals as goal

pub loop-key-init : goal.loop-key-init
loop-key-init g c = WritesUpTo-start (WritesEntry g.K.Described.writes g.V.Borrow.Described.writes) _ _ _ (search rules)

pub loop-key-preserved : goal.loop-key-preserved
loop-key-preserved g c = WritesUpTo-more (WritesEntry g.K.Described.writes g.V.Borrow.Described.writes) _ _ _ (c.in-Some.key.now, c.in-Some.value.now) _ _ _ c.loop-key.invariant c.in-Some.ensures.steps c.in_ok-write_entry.ensures

pub returns : goal.returns
returns g c =
    let len : c.len.result ≡ length c.args.self.now.0.now = search rules in
    let begun = subst (λ n. Logs (g.S.Serializer.written c.args.out.now) (g.S.Serializer.written c.begin_map.new.self) (map_begins (Some n))) len c.in_ok-begin_map.ensures in
    let each = WritesUpTo-all (WritesEntry g.K.Described.writes g.V.Borrow.Described.writes) _ _ _ _ c.loop-key.invariant c.in-None.ensures.steps.0 in
    on_ok_weaker c.end_map.result (λ ended. (_, _, begun, each, ended)) c.end_map.ensures
