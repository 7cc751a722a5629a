use Rattle.std.proofs.Common.{◌≡◌, ℕ, List, [], ◌∷◌, length, map, position, IfSome, None, ap, subst, sym, ◌∙◌, arith}
use Rattle.std.proofs.lemmas.List.{length-append, length-map}
use Rattle.std.specs.Borrow.{Bor}
use Rattle.std.specs.Str.{bytes_eq}
use Rattle.elsa_buckets.specs.Table.{IsCount}
use Rattle.elsa_interner.specs.Names.{IsNumbered, Puts, text_hash}
use Rattle.elsa_interner.proofs.NameLemmas.{numbered_put, numbered_same, put_new, shown_push}
use Rattle.elsa_interner.proofs.names.Names.put.Goals as goal
use Rattle.elsa_interner.proofs.names.Names.put.Goals.{in-Some, in_default+in_ok-name}

pub search-requires-clause-counted : goal.search-requires-clause-counted
search-requires-clause-counted g c =
    omega (arith, c.self.invariant.0.counted, length-map c.self.inside.list.items (λ (b : Bor (List ℕ)). b.now), ap length c.as_slice.ensures.value)

-- If the copy fails, the table has made room that is not used.
pub invariant_of-self-in_err-name : goal.invariant_of-self-in_err-name
invariant_of-self-in_err-name g c =
    let reserved = c.in_ok-room.ensures in
    let hash = text_hash g.S.BuildHasher g.S.Hasher.Hasher c.self.inside.hash_builder in
    subst (λ l. IsNumbered hash c.reserve-2.new.self (map (λ (b : Bor (List ℕ)). b.now) l) × IsCount (length l)) (sym c.in_ok-reserve.ensures.items)
    (numbered_same hash c.self.inside.table c.reserve-2.new.self _ c.self.invariant.0 reserved.indices reserved.same, c.self.invariant.1)

pub invariant_of-self-2 : goal.invariant_of-self-2
invariant_of-self-2 g c =
    let ks = c.self.inside.list.items in
    let text = c.args.sought.text.now in
    let reserved = c.in_ok-room.ensures in
    let named : c.match-placed.name.now ≡ text = elim c.match-placed.branch [
      | in-Some w ↦ ap (λ (b : Bor (List ℕ)). b.now) w.name-is ∙ subst (λ o. IfSome o (λ (b : Bor (List ℕ)). b.now ≡ text)) w.in-Some.is c.requires.placed
      | in_default+in_ok-name w ↦ ap (λ (b : Bor (List ℕ)). b.now) w.name-is ∙ w.in_ok-name.ensures
    ] in
    let last = shown_push ks c.reserve.new.self.items c.push_reserved.new.self.items text c.match-placed.name c.in_ok-reserve.ensures.items c.push_reserved.ensures.items named in
    let none = subst (λ l. position (bytes_eq text) (map (λ (b : Bor (List ℕ)). b.now) l) ≡ None) c.as_slice.ensures.value c.in-Err.ensures.absent in
    let hashed = c.requires.hashed ∙ ap (λ v. text_hash g.S.BuildHasher g.S.Hasher.Hasher v.1 text) (sym c.self.view_is) in
    let before = numbered_same _ c.self.inside.table c.reserve-2.new.self (map (λ (b : Bor (List ℕ)). b.now) ks) c.self.invariant.0 reserved.indices reserved.same in
    let counted = c.self.invariant.0.counted in
    let below = reserved.below in
    let same = reserved.indices in (
      subst (IsNumbered _ c.add-index.new.self) (sym last)
          (numbered_put _ c.reserve-2.new.self c.add-index.new.self _ text c.args.sought.known.hash c.add-index.result before hashed c.add-index.ensures.index c.add-index.ensures.indices c.add-index.ensures.adds none),
      omega (arith, below, same, counted, length-map ks (λ (b : Bor (List ℕ)). b.now), ap length c.push_reserved.ensures.items, ap length c.in_ok-reserve.ensures.items, length-append c.reserve.new.self.items (c.match-placed.name ∷ [])),
    )

pub returns-clause-numbered : goal.returns-clause-numbered
returns-clause-numbered g c =
    let ks = c.self.inside.list.items in
    let text = c.args.sought.text.now in
    let named : c.match-placed.name.now ≡ text = elim c.match-placed.branch [
      | in-Some w ↦ ap (λ (b : Bor (List ℕ)). b.now) w.name-is ∙ subst (λ o. IfSome o (λ (b : Bor (List ℕ)). b.now ≡ text)) w.in-Some.is c.requires.placed
      | in_default+in_ok-name w ↦ ap (λ (b : Bor (List ℕ)). b.now) w.name-is ∙ w.in_ok-name.ensures
    ] in
    let last = shown_push ks c.reserve.new.self.items c.push_reserved.new.self.items text c.match-placed.name c.in_ok-reserve.ensures.items c.push_reserved.ensures.items named in
    let none = subst (λ l. position (bytes_eq text) (map (λ (b : Bor (List ℕ)). b.now) l) ≡ None) c.as_slice.ensures.value c.in-Err.ensures.absent in
    let placed : c.add-index.result ≡ length (map (λ (b : Bor (List ℕ)). b.now) ks) = omega (arith, c.add-index.ensures.index, c.in_ok-room.ensures.indices, c.self.invariant.0.counted) in
    subst (λ l. Puts l text c.add-index.result (map (λ (b : Bor (List ℕ)). b.now) c.push_reserved.new.self.items)) (ap (λ v. v.0) c.self.view_is) (put_new _ _ text c.add-index.result none placed last)
