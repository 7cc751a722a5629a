use Rattle.std.proofs.Common.{◌≡◌, ◌∷◌, [], length, get_or, ap, subst, sym, ◌∙◌, arith}
use Rattle.std.proofs.Math.ListN.{set, length-set}
use Rattle.std.proofs.lemmas.List.{get_or_default, length-append}
use Rattle.elsa_buckets.specs.Groups.{empty_group, load_limit, Fills, Indexes}
use Rattle.elsa_buckets.specs.Table.{IsRoom}
use Rattle.elsa_buckets.proofs.GroupLemmas.{indexes_push}
use Rattle.elsa_buckets.proofs.table.IndexTable.add.Goals as goal

pub invariant_of-self : goal.invariant_of-self
invariant_of-self g c =
    let groups = c.self.inside.groups.items in
    let hashes = c.self.inside.hashes.items in
    let hash = c.args.hash in
    let bucket = c.args.room.bucket in
    let filled = c.fill.new.self in
    let room = subst (λ t. IsRoom t hash c.args.room) (sym c.self.view_is) c.requires.room in
    let last = c.push_reserved.ensures.items in
    let grown = ap length last ∙ length-append hashes (hash ∷ []) in
    let below = c.requires.below in
    let counted = ap (λ t. length t.1) c.self.view_is in
    let index : c.len-index.result ≡ length hashes = omega arith in
    let read = c.index_mut.ensures.value ∙ get_or_default groups bucket.group _ empty_group room.0.within in
    let fills : Fills (get_or groups bucket.group empty_group) bucket.lane hash (length hashes) filled
    = subst (λ n. Fills (get_or groups bucket.group empty_group) bucket.lane hash n filled) index (subst (λ x. Fills x bucket.lane hash c.len-index.result filled) read c.fill.ensures) in
    let same = length-set groups bucket.group filled in (
      subst (Indexes (set groups bucket.group filled)) (sym last) (indexes_push groups hashes hash bucket room.0 filled fills c.self.invariant.0),
      omega (arith, grown, below, counted),
      subst (λ n. c.self.inside.limit ≡ load_limit n) (sym same) c.self.invariant.2,
      omega (arith, grown, room.1, c.self.invariant),
      omega (arith, c.push_reserved.ensures.capacity, c.self.invariant),
    )
