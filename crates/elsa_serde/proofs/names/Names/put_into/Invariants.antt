use Rattle.std.proofs.Common.{drop, length, map, string_bytes}
use Rattle.elsa_serde.specs.Loaded.{AddsName}
use Rattle.elsa_serde.proofs.Turns.{UpTo}
use Rattle.elsa_serde.proofs.names.Names.put_into.Given as goal

abbrev pub invariant-loop-text : goal.invariant-loop-text
invariant-loop-text g l = UpTo AddsName length (map string_bytes l.self.0.items) (map string_bytes (drop l.text-index l.self.0.items)) l.fn.names l.names
