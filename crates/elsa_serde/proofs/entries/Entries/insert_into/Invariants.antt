use Rattle.std.proofs.Common.{◌≡◌, length}
use Rattle.elsa_serde.specs.Loaded.{AddsPair}
use Rattle.elsa_serde.proofs.Turns.{UpTo}
use Rattle.elsa_serde.proofs.entries.Entries.insert_into.Given as goal

abbrev pub invariant-loop-key : goal.invariant-loop-key
invariant-loop-key g l = record {
  went : UpTo (AddsPair g.M.MapForm.same g.V.HasTarget.target g.V.HasTarget.shown g.M.MapForm.extends) length l.fn.self.0.items l.key-iterator.rest.items (g.M.MapForm.entries l.fn.map) (g.M.MapForm.entries l.map);
  left : l.key-iterator.rest.len ≡ length l.key-iterator.rest.items;
}
