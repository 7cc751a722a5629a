use Rattle.std.proofs.Common.{◌≡◌, ◌+◌, ◌-◌, ◌<◌, length, get_or, vec_items, slice_get, Some, arith, refl, ap, sym, subst, ◌∙◌}
use Rattle.std.proofs.lemmas.Option.{slice_get-get_or, slice_get_read, slice_get_within, same_Some}
use Rattle.elsa_cell.specs.Ordered.{rank_of}
use Rattle.elsa_cell.proofs.BlockLemmas.{first_block, get_joined, last_block, rank_all, rank_next}
use Rattle.elsa_cell.proofs.ordered.Ordered.last.Goals as goal

pub returns : goal.returns
returns g c =
    let blocks = c.args.self.now.blocks.items in let v = c.index.result.now in let order = c.as_slice-block.result.now in
    let first = first_block vec_items blocks c.requires.filled c.requires.some in
    let lt = slice_get_within blocks 0 first.0 first.1 in
    let at = c.len.result - 1 in let count = c.len.ensures in let fits = c.args.self.now.blocks.ok.0 in
    let end : at + 1 ≡ length blocks = omega (arith, lt, count, fits) in
    let small : at < length blocks = omega (arith, lt, count, fits) in
    let there = slice_get_read blocks (length blocks) at v refl small c.index.ensures in
    let b = last_block vec_items blocks at c.requires.filled c.requires.some end in
    let some : 0 < length v.items = subst (λ x. 0 < length (vec_items x)) (same_Some b.0 v (sym b.1 ∙ there)) b.2 in
    let position = length order - 1 in
    let same = ap length c.as_slice-block.ensures.value in
    let inside : position < length order = omega (arith, some, same) in
    let here = subst (λ l. slice_get l position ≡ Some (get_or order position 0)) c.as_slice-block.ensures.value (slice_get-get_or order position 0 inside) in
    let next = rank_next vec_items blocks at v there in
    let all = rank_all vec_items blocks (at + 1) (omega (arith, lt, count, fits)) in
    (rank_of vec_items blocks at + position, get_joined vec_items blocks at v position (get_or order position 0) there here, omega (arith, next, all, some, same))
