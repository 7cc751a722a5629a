use Rattle.std.proofs.Common.{◌≡◌, Some, length, map, slice_get, ap, arith, subst, sym}
use Rattle.std.proofs.lemmas.List.{length-map}
use Rattle.std_alloc.specs.String.{string_bytes}
use Rattle.elsa_interner.specs.Names.{IsOneToOne}
use Rattle.elsa_buckets.specs.Table.{Has}
use Rattle.elsa_c.proofs.names.Names.find.Goals as goal

pub search-requires-clause-entered : goal.search-requires-clause-entered
search-requires-clause-entered g c i there =
    subst (λ h. Has c.self.inside.table h i) (sym c.name_hash-hash.ensures)
    (c.self.invariant.entered i c.args.text.now (subst (λ l. slice_get (map string_bytes l) i ≡ Some c.args.text.now) c.as_slice.ensures.value there))

pub search-requires-clause-counted : goal.search-requires-clause-counted
search-requires-clause-counted g c =
    omega (arith, c.self.invariant.counted, length-map c.self.inside.names.items string_bytes, ap length c.as_slice.ensures.value)

pub search-requires-clause-one_to_one : goal.search-requires-clause-one_to_one
search-requires-clause-one_to_one g c = subst (λ l. IsOneToOne (map string_bytes l)) (sym c.as_slice.ensures.value) c.self.invariant.one_to_one
