use Rattle.std.proofs.Common.{length, string_bytes, ap, ◌∙◌}
use Rattle.std.proofs.lemmas.List.{length_push}
use Rattle.elsa_serde.specs.Loaded.{AddsName}
use Rattle.elsa_serde.proofs.Naming.{names_after, next_item, no_item}
use Rattle.elsa_serde.proofs.Turns.{up_to_more, up_to_all}
use Rattle.elsa_serde.proofs.names.Names.put_into.Goals as goal

pub loop-text-preserved : goal.loop-text-preserved
loop-text-preserved g c =
    let adds : AddsName c.loop-text.names (string_bytes c.text-item.result) c.put_next.new.names = rw c.as_str.ensures.value at c.in_ok-put_next.ensures.added in
    up_to_more AddsName length _ _ _ (string_bytes c.text-item.result) _ _ _ c.loop-text.invariant
    (next_item string_bytes c.args.self.now.0.items c.deref-text-items.result.now c.loop-text.text-index c.text-item.result c.deref-text-items.ensures.value c.loop-text-test.true c.text-item.is)
    adds (ap length adds.1 ∙ length_push c.loop-text.names (string_bytes c.text-item.result))

pub returns-clause-inserted : goal.returns-clause-inserted
returns-clause-inserted g c =
    names_after _ _ _ (up_to_all AddsName length _ _ _ _ c.loop-text.invariant
    (no_item string_bytes c.args.self.now.0.items c.deref-text-items.result.now c.loop-text.text-index c.deref-text-items.ensures.value c.loop-text-test.false))
