use Rattle.std.proofs.Common.{ℕ, List, length, map, subst, sym}
use Rattle.std.specs.Borrow.{Bor}
use Rattle.elsa_buckets.specs.Table.{IsCount}
use Rattle.elsa_interner.specs.Names.{IsNumbered, text_hash}
use Rattle.elsa_interner.proofs.NameLemmas.{numbered_same}
use Rattle.elsa_interner.proofs.names.Names.reserve.Goals as goal

pub invariant_of-self-2 : goal.invariant_of-self-2
invariant_of-self-2 g c =
    let hash = text_hash g.S.BuildHasher g.S.Hasher.Hasher c.self.inside.hash_builder in
    let after = c.reserve_indices.new.self in
    subst (λ l. IsNumbered hash after (map (λ (b : Bor (List ℕ)). b.now) l) × IsCount (length l)) (sym c.in_ok-reserve.ensures.items)
    (numbered_same hash c.self.inside.table after _ c.self.invariant.0 c.reserve_indices.ensures.indices c.reserve_indices.ensures.same, c.self.invariant.1)
