use Rattle.std.proofs.Common.{◌≡◌, length}
use Rattle.elsa_serde.specs.Loaded.{AddsValue}
use Rattle.elsa_serde.proofs.Turns.{UpTo}
use Rattle.elsa_serde.proofs.items.Items.insert_into.Given as goal

abbrev pub invariant-loop-value : goal.invariant-loop-value
invariant-loop-value g l = record {
  went : UpTo (AddsValue g.T.HasTarget.target g.T.HasTarget.shown g.T.LookUp.finds) length l.fn.self.0.items l.value-iterator.rest.items l.fn.set l.set;
  left : l.value-iterator.rest.len ≡ length l.value-iterator.rest.items;
}
