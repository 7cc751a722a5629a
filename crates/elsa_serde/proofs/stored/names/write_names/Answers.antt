use Rattle.std.proofs.Common.{map, Some, subst, sym, ap, ◌∙◌}
use Rattle.std.specs.Slice.Iter.{iter_rest}
use Rattle.std.proofs.lemmas.List.{length-map, nil_from_length}
use Rattle.std.proofs.lemmas.Result.{on_ok_weaker}
use Rattle.serde.specs.Event.{Logs, seq_begins}
use Rattle.serde.proofs.Events.{WritesUpTo-more, WritesUpTo-all}
use Rattle.elsa_serde.specs.Written.{WritesText}
use Rattle.elsa_serde.proofs.stored.names.write_names.Goals as goal

pub loop-name-preserved : goal.loop-name-preserved
loop-name-preserved g c = WritesUpTo-more WritesText _ _ _ c.in-Some.name.now.now _ _ _ c.loop-name.invariant (ap (map (λ name. name.now)) c.in-Some.ensures.steps) c.in_ok-str.ensures

pub returns : goal.returns
returns g c =
    let begun = subst (λ n. Logs (g.S.Serializer.written c.args.out.now) (g.S.Serializer.written c.begin_seq.new.self) (seq_begins (Some n))) (c.requires ∙ sym (length-map (iter_rest c.args.names) (λ name. name.now))) c.in_ok-begin_seq.ensures in
    let each = WritesUpTo-all WritesText _ _ _ _ c.loop-name.invariant (ap (map (λ name. name.now)) (nil_from_length _ c.in-None.ensures.steps.0)) in
    on_ok_weaker c.end_seq.result (λ ended. (_, _, begun, each, ended)) c.end_seq.ensures
