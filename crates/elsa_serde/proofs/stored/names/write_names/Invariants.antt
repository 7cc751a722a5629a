use Rattle.std.proofs.Common.{map}
use Rattle.std.specs.Slice.Iter.{iter_rest}
use Rattle.serde.proofs.Events.{WritesUpTo}
use Rattle.elsa_serde.specs.Written.{WritesText}
use Rattle.elsa_serde.proofs.stored.names.write_names.Given as goal

abbrev pub invariant-loop-name : goal.invariant-loop-name
invariant-loop-name g l = WritesUpTo WritesText (map (λ name. name.now) (iter_rest l.fn.names)) (map (λ name. name.now) (iter_rest l.name-iterator)) (g.S.Serializer.written l.initial.out) (g.S.Serializer.written l.out)
