use Rattle.std.proofs.Common.{◌≡◌, vec_items, ap, ◌∙◌, get_or}
use Rattle.std.proofs.lemmas.Option.{get_or_from_slice_get}
use Rattle.std.specs.List.{insert}
use Rattle.elsa_cell.proofs.BlockLemmas.{table_put}
use Rattle.elsa_cell.proofs.ordered.OrderedIndices.add.Goals as goal

pub returns : goal.returns
returns g c keys key table room none =
    let blocks = c.args.self.now.blocks.items in let b = room.0.0 in
    let same : c.index_mut.result.now ≡ b = c.index_mut.ensures.value ∙ get_or_from_slice_get blocks c.args.end.0 b c.index_mut.result.now room.0.1 in
    let is = c.in-Ok.ensures.items ∙ ap (λ x. insert (vec_items x) c.args.end.1 c.args.self.now.count) same in
    table_put vec_items g.K.Ord.cmp g.met.K.Ord.total blocks c.args.self.now.count keys key c.args.end b c.insert.new.self table room.1 room.0.1 room.0.2 is
