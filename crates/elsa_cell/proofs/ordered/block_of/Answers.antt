use Rattle.std.proofs.Common.{◌≡◌, ◌+◌, ◌-◌, ◌/◌, ◌<◌, length, vec_items, arith, refl, subst, sym}
use Rattle.std.proofs.lemmas.Option.{slice_get_read}
use Rattle.elsa_cell.specs.Ordered.{IsBetween, joined, rank_of}
use Rattle.elsa_cell.proofs.BlockLemmas.{each_filled, first_joined}
use Rattle.elsa_cell.proofs.OrderLemmas.{between_down, between_equal, between_greater, within}
use Rattle.elsa_cell.proofs.ordered.block_of.Goals as goal

pub key_at-requires : goal.key_at-requires
key_at-requires g c =
    let blocks = c.args.blocks.now in let keys = g.L.KeyList.keys c.args.keys.now in let order = joined vec_items blocks in
    let inv = c.loop-high.invariant in let end = inv.1 in let wide = c.loop-high-test.true in
    let at = c.loop-high.low + (c.loop-high.high - c.loop-high.low) / 2 in
    let v = c.index-blocks-middle.result in let i = c.index.result.now in
    let small : at < length blocks = omega (arith, wide, end) in let many : 1 < length blocks = omega (arith, wide, end) in
    let there = slice_get_read blocks (length blocks) at v refl small c.index-blocks-middle.is in
    let some = each_filled vec_items blocks (c.requires.filled many) at v there in
    let has = first_joined vec_items blocks at v i there (slice_get_read v.items (length v.items) 0 i refl some c.index.ensures) in
    within g.K.Ord.cmp order keys c.requires.ordered (rank_of vec_items blocks at) i has

pub loop-high-preserved-in-Less : goal.loop-high-preserved-in-Less
loop-high-preserved-in-Less g c =
    let blocks = c.args.blocks.now in let keys = g.L.KeyList.keys c.args.keys.now in let order = joined vec_items blocks in
    let inv = c.loop-high.invariant in let end = inv.1 in let wide = c.loop-high-test.true in
    let at = c.loop-high.low + (c.loop-high.high - c.loop-high.low) / 2 in
    let v = c.index-blocks-middle.result in let i = c.index.result.now in
    let small : at < length blocks = omega (arith, wide, end) in let many : 1 < length blocks = omega (arith, wide, end) in
    let there = slice_get_read blocks (length blocks) at v refl small c.index-blocks-middle.is in
    let some = each_filled vec_items blocks (c.requires.filled many) at v there in
    let has = first_joined vec_items blocks at v i there (slice_get_read v.items (length v.items) 0 i refl some c.index.ensures) in
    (omega (arith, wide), omega (arith, small), between_down g.K.Ord.cmp g.met.K.Ord.total (g.Q.OrderQuery.against c.args.query) (g.met.Q.OrderQuery.higher c.args.query) order keys (rank_of vec_items blocks c.loop-high.low) (rank_of vec_items blocks c.loop-high.high) (rank_of vec_items blocks at) c.key_at.result.now c.requires.ordered inv.2 (i, has, c.key_at.ensures) (sym c.in-Less.ensures))

pub loop-high-preserved-in-Greater : goal.loop-high-preserved-in-Greater
loop-high-preserved-in-Greater g c =
    let blocks = c.args.blocks.now in let keys = g.L.KeyList.keys c.args.keys.now in let order = joined vec_items blocks in
    let inv = c.loop-high.invariant in let end = inv.1 in let wide = c.loop-high-test.true in
    let at = c.loop-high.low + (c.loop-high.high - c.loop-high.low) / 2 in
    let v = c.index-blocks-middle.result in let i = c.index.result.now in
    let small : at < length blocks = omega (arith, wide, end) in let many : 1 < length blocks = omega (arith, wide, end) in
    let there = slice_get_read blocks (length blocks) at v refl small c.index-blocks-middle.is in
    let some = each_filled vec_items blocks (c.requires.filled many) at v there in
    let has = first_joined vec_items blocks at v i there (slice_get_read v.items (length v.items) 0 i refl some c.index.ensures) in
    (omega (arith, wide), end, between_greater g.K.Ord.cmp g.met.K.Ord.total (g.Q.OrderQuery.against c.args.query) (g.met.Q.OrderQuery.lower c.args.query) order keys (rank_of vec_items blocks c.loop-high.low) (rank_of vec_items blocks c.loop-high.high) (rank_of vec_items blocks at) c.key_at.result.now c.requires.ordered inv.2 (i, has, c.key_at.ensures) (sym c.in-Greater.ensures))

pub loop-high-preserved : goal.loop-high-preserved
loop-high-preserved g c =
    let blocks = c.args.blocks.now in let keys = g.L.KeyList.keys c.args.keys.now in let order = joined vec_items blocks in
    let inv = c.loop-high.invariant in let end = inv.1 in let wide = c.loop-high-test.true in
    let at = c.loop-high.low + (c.loop-high.high - c.loop-high.low) / 2 in
    let v = c.index-blocks-middle.result in let i = c.index.result.now in
    let small : at < length blocks = omega (arith, wide, end) in let many : 1 < length blocks = omega (arith, wide, end) in
    let there = slice_get_read blocks (length blocks) at v refl small c.index-blocks-middle.is in
    let some = each_filled vec_items blocks (c.requires.filled many) at v there in
    let has = first_joined vec_items blocks at v i there (slice_get_read v.items (length v.items) 0 i refl some c.index.ensures) in
    (omega (arith, wide), end, between_equal g.K.Ord.cmp g.met.K.Ord.total (g.Q.OrderQuery.against c.args.query) (g.met.Q.OrderQuery.alike c.args.query) order keys (rank_of vec_items blocks c.loop-high.low) (rank_of vec_items blocks c.loop-high.high) (rank_of vec_items blocks at) c.key_at.result.now c.requires.ordered inv.2 (i, has, c.key_at.ensures) (sym c.in-Equal.ensures))

pub returns-clause-between : goal.returns-clause-between
returns-clause-between g c =
    let blocks = c.args.blocks.now in let inv = c.loop-high.invariant in let low = inv.0 in let narrow = c.loop-high-test.false in
    let e : c.loop-high.high ≡ c.loop-high.low + 1 = omega (arith, low, narrow) in
    subst (λ n. IsBetween (g.Q.OrderQuery.against c.args.query) (joined vec_items blocks) (g.L.KeyList.keys c.args.keys.now) (rank_of vec_items blocks c.loop-high.low) (rank_of vec_items blocks n)) e inv.2
