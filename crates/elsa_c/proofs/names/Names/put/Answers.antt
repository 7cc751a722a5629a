use Rattle.std.proofs.Common.{◌≡◌, length, map, position, slice_get, Some, None, ap, subst, sym, arith}
use Rattle.std.proofs.lemmas.List.{length-map}
use Rattle.std.specs.Str.{bytes_eq}
use Rattle.std_alloc.specs.String.{string_bytes}
use Rattle.elsa_interner.specs.Names.{IsNumbered, IsOneToOne, text_hash}
use Rattle.elsa_interner.proofs.NameLemmas.{numbered_put, numbered_same}
use Rattle.elsa_buckets.specs.Table.{Has}
use Rattle.elsa_c.proofs.TextLemmas.{shown_push}
use Rattle.elsa_c.proofs.names.Names.put.Goals as goal

pub search-requires-clause-entered : goal.search-requires-clause-entered
search-requires-clause-entered g c i there =
    subst (λ h. Has c.self.inside.table h i) (sym c.name_hash-hash.ensures)
    (c.self.invariant.entered i c.args.text.now (subst (λ l. slice_get (map string_bytes l) i ≡ Some c.args.text.now) c.as_slice.ensures.value there))

pub search-requires-clause-counted : goal.search-requires-clause-counted
search-requires-clause-counted g c =
    omega (arith, c.self.invariant.counted, length-map c.self.inside.names.items string_bytes, ap length c.as_slice.ensures.value)

pub search-requires-clause-one_to_one : goal.search-requires-clause-one_to_one
search-requires-clause-one_to_one g c = subst (λ l. IsOneToOne (map string_bytes l)) (sym c.as_slice.ensures.value) c.self.invariant.one_to_one

-- the copy fails, and the table has room that stays unused
pub invariant_of-self-in_err-name : goal.invariant_of-self-in_err-name
invariant_of-self-in_err-name g c =
    let reserved = c.in_ok-room.ensures in
    let hash = text_hash g.S.BuildHasher g.S.Hasher.Hasher c.self.inside.hash_builder in
    subst (λ l. IsNumbered hash c.reserve-2.new.self (map string_bytes l)) (sym c.in_ok-reserve.ensures.items)
    (numbered_same hash c.self.inside.table c.reserve-2.new.self _ c.self.invariant reserved.indices reserved.same)

pub invariant_of-self-2 : goal.invariant_of-self-2
invariant_of-self-2 g c =
    let ks = c.self.inside.names.items in
    let text = c.args.text.now in
    let reserved = c.in_ok-room.ensures in
    let last = shown_push string_bytes ks c.reserve.new.self.items c.push_reserved.new.self.items text c.in_ok-name.name c.in_ok-reserve.ensures.items c.push_reserved.ensures.items c.in_ok-name.ensures.ok in
    let none = subst (λ l. position (bytes_eq text) (map string_bytes l) ≡ None) c.as_slice.ensures.value c.in-Err.ensures.absent in
    let before = numbered_same _ c.self.inside.table c.reserve-2.new.self (map string_bytes ks) c.self.invariant reserved.indices reserved.same in
    subst (IsNumbered _ c.add-index.new.self) (sym last)
    (numbered_put _ c.reserve-2.new.self c.add-index.new.self _ text c.name_hash-hash.result c.add-index.result before c.name_hash-hash.ensures c.add-index.ensures.index c.add-index.ensures.indices c.add-index.ensures.adds none)
