use Rattle.std.proofs.Common.{◌≡◌, ◌+◌, ◌-◌, ◌/◌, ◌<◌, ◌≤◌, Some, length, slice_get, slice_index_or, vec_items, arith, ap, refl, subst, sym, ◌∙◌}
use Rattle.std.proofs.lemmas.Option.{slice_get-get_or, slice_get_read}
use Rattle.elsa_cell.specs.Ordered.{IsBetween, joined, rank_of}
use Rattle.elsa_cell.proofs.BlockLemmas.{get_joined, rank_fits, rank_next}
use Rattle.elsa_cell.proofs.OrderLemmas.{between_down, between_up, middle, within}
use Rattle.elsa_cell.proofs.ordered.search.Goals as goal

pub loop-low-init : goal.loop-low-init
loop-low-init g c =
    let blocks = c.args.blocks.now in let keys = g.L.KeyList.keys c.args.keys.now in let table = joined vec_items blocks in
    let order = c.as_slice-order.result.now in let at = c.block_of-at.result in let v = c.index-blocks-at.result in
    let rank = rank_of vec_items blocks at in
    let there = slice_get_read blocks (length blocks) at v refl c.block_of-at.ensures.within c.index-blocks-at.is in
    let zero : rank ≡ rank + 0 = omega arith in
    let all = rank_next vec_items blocks at v there ∙ ap (λ l. rank + length l) (sym c.as_slice-order.ensures.value) in (
      omega arith,
      omega arith,
      subst (λ n. IsBetween (g.Q.OrderQuery.against c.args.query) table keys n (rank + length order)) zero
          (subst (λ n. IsBetween (g.Q.OrderQuery.against c.args.query) table keys rank n) all c.block_of-at.ensures.between),
    )

pub key_at-requires : goal.key_at-requires
key_at-requires g c =
    let blocks = c.args.blocks.now in let keys = g.L.KeyList.keys c.args.keys.now in let table = joined vec_items blocks in
    let order = c.as_slice-order.result.now in let at = c.block_of-at.result in let v = c.index-blocks-at.result in
    let rank = rank_of vec_items blocks at in
    let there = slice_get_read blocks (length blocks) at v refl c.block_of-at.ensures.within c.index-blocks-at.is in
    let inv = c.loop-low.invariant in let m = middle c.loop-low.low c.loop-low.high c.loop-low-test.true in let low = m.1 in let end = inv.1 in
    let position = c.loop-low.low + (c.loop-low.high - c.loop-low.low) / 2 in let i = slice_index_or order position 0 in
    let small : position < length order = omega (arith, low, end) in
    let has = get_joined vec_items blocks at v position i there (subst (λ l. slice_get l position ≡ Some i) c.as_slice-order.ensures.value (slice_get-get_or order position 0 small)) in
    within g.K.Ord.cmp table keys c.requires.ordered (rank + position) i has

pub loop-low-preserved-in-Less : goal.loop-low-preserved-in-Less
loop-low-preserved-in-Less g c =
    let blocks = c.args.blocks.now in let keys = g.L.KeyList.keys c.args.keys.now in let table = joined vec_items blocks in
    let order = c.as_slice-order.result.now in let at = c.block_of-at.result in let v = c.index-blocks-at.result in
    let rank = rank_of vec_items blocks at in
    let there = slice_get_read blocks (length blocks) at v refl c.block_of-at.ensures.within c.index-blocks-at.is in
    let inv = c.loop-low.invariant in let m = middle c.loop-low.low c.loop-low.high c.loop-low-test.true in let low = m.1 in let end = inv.1 in
    let position = c.loop-low.low + (c.loop-low.high - c.loop-low.low) / 2 in let i = slice_index_or order position 0 in
    let small : position < length order = omega (arith, low, end) in
    let has = get_joined vec_items blocks at v position i there (subst (λ l. slice_get l position ≡ Some i) c.as_slice-order.ensures.value (slice_get-get_or order position 0 small)) in
    (m.0, omega (arith, small), between_down g.K.Ord.cmp g.met.K.Ord.total (g.Q.OrderQuery.against c.args.query) (g.met.Q.OrderQuery.higher c.args.query) table keys (rank + c.loop-low.low) (rank + c.loop-low.high) (rank + position) c.key_at.result.now c.requires.ordered inv.2 (i, has, c.key_at.ensures) (sym c.in-Less.ensures))

pub loop-low-preserved : goal.loop-low-preserved
loop-low-preserved g c =
    let blocks = c.args.blocks.now in let keys = g.L.KeyList.keys c.args.keys.now in let table = joined vec_items blocks in
    let order = c.as_slice-order.result.now in let at = c.block_of-at.result in let v = c.index-blocks-at.result in
    let rank = rank_of vec_items blocks at in
    let there = slice_get_read blocks (length blocks) at v refl c.block_of-at.ensures.within c.index-blocks-at.is in
    let inv = c.loop-low.invariant in let m = middle c.loop-low.low c.loop-low.high c.loop-low-test.true in let low = m.1 in let end = inv.1 in
    let position = c.loop-low.low + (c.loop-low.high - c.loop-low.low) / 2 in let i = slice_index_or order position 0 in
    let small : position < length order = omega (arith, low, end) in
    let has = get_joined vec_items blocks at v position i there (subst (λ l. slice_get l position ≡ Some i) c.as_slice-order.ensures.value (slice_get-get_or order position 0 small)) in
    let up : rank + position + 1 ≡ rank + (position + 1) = omega arith in (
      omega (arith, low),
      end,
      subst (λ n. IsBetween (g.Q.OrderQuery.against c.args.query) table keys n (rank + c.loop-low.high)) up
          (between_up g.K.Ord.cmp g.met.K.Ord.total (g.Q.OrderQuery.against c.args.query) (g.met.Q.OrderQuery.lower c.args.query) table keys (rank + c.loop-low.low) (rank + c.loop-low.high) (rank + position) c.key_at.result.now c.requires.ordered inv.2 (i, has, c.key_at.ensures) (sym c.in-Greater.ensures)),
    )

pub returns-clause-gap : goal.returns-clause-gap
returns-clause-gap g c =
    let blocks = c.args.blocks.now in let keys = g.L.KeyList.keys c.args.keys.now in let table = joined vec_items blocks in
    let order = c.as_slice-order.result.now in let at = c.block_of-at.result in let v = c.index-blocks-at.result in
    let rank = rank_of vec_items blocks at in
    let there = slice_get_read blocks (length blocks) at v refl c.block_of-at.ensures.within c.index-blocks-at.is in
    let inv = c.loop-low.invariant in let low = inv.0 in let end = inv.1 in let past = c.loop-low-test.false in
    let e : c.loop-low.high ≡ c.loop-low.low = omega (arith, low, past) in
    let fits = rank_fits vec_items blocks at v there in let same = ap length c.as_slice-order.ensures.value in
    record {
      gap = record {
        within = omega (arith, low, end, fits, same);
        between = subst (λ n. IsBetween (g.Q.OrderQuery.against c.args.query) table keys (rank + c.loop-low.low) (rank + n)) e inv.2;
      };
      there = λ _. (v, there, omega (arith, low, end, same));
    }
