use Rattle.std.proofs.Common.{◌≡◌, ◌+◌, ◌-◌, ◌<◌, ◌≤◌, ◌++◌, drop, get_or, length, set, take, vec_items, vec_capacity, arith, ap, sym, ◌∙◌}
use Rattle.std.proofs.lemmas.List.{length-drop, length-take-le, take_rest}
use Rattle.std.proofs.lemmas.Option.{get_or_from_slice_get}
use Rattle.std.specs.List.{insert}
use Rattle.elsa_cell.proofs.BlockLemmas.{is_split}
use Rattle.elsa_cell.proofs.ordered.Ordered.split.Goals as goal

pub returns-then-position-cut-clause-same : goal.returns-then-position-cut-clause-same
returns-then-position-cut-clause-same g c =
    let blocks = c.args.self.now.blocks.items in let b = c.requires.there.0 in let there = c.requires.there.1 in
    let reserved = ap vec_items c.new_block.ensures.same.0 ∙ c.in_ok-reserve.ensures.items in let cut = c.cut_of-cut.result in
    let same : c.index_mut-block.result.now ≡ b = c.index_mut-block.ensures.value ∙ (ap (λ l. get_or l c.args.at c.index_mut-block.result.now) reserved ∙ get_or_from_slice_get blocks c.args.at b c.index_mut-block.result.now there) in
    let head : c.truncate.new.self.items ≡ take cut b.items = c.truncate.ensures.items ∙ ap (λ x. take cut (vec_items x)) same in
    let order = c.deref.result.now in
    let tail : c.extend_from_slice.new.self.items ≡ drop cut b.items = c.in-Ok.ensures.items ∙ (ap (λ l. l ++ take (length order - cut) (drop cut order)) c.in_ok-tail.ensures.items ∙ (take_rest order cut ∙ ap (drop cut) (c.deref.ensures.value ∙ ap vec_items same))) in
    let size = c.requires.there.2 in
    let some = c.cut_of-cut.ensures.0 in let less = c.cut_of-cut.ensures.1 in
    let is = c.in-Ok-insert.ensures.items ∙ ap (λ l. insert (set l c.args.at c.truncate.new.self) (c.args.at + 1) c.extend_from_slice.new.self) reserved in
    let s = is_split vec_items blocks c.insert.new.self.items c.args.at cut b c.truncate.new.self c.extend_from_slice.new.self there is head tail some (omega (arith, less, size)) in
    s.same

pub returns-then-position-cut-clause-filled : goal.returns-then-position-cut-clause-filled
returns-then-position-cut-clause-filled g c =
    let blocks = c.args.self.now.blocks.items in let b = c.requires.there.0 in let there = c.requires.there.1 in
    let reserved = ap vec_items c.new_block.ensures.same.0 ∙ c.in_ok-reserve.ensures.items in let cut = c.cut_of-cut.result in
    let same : c.index_mut-block.result.now ≡ b = c.index_mut-block.ensures.value ∙ (ap (λ l. get_or l c.args.at c.index_mut-block.result.now) reserved ∙ get_or_from_slice_get blocks c.args.at b c.index_mut-block.result.now there) in
    let head : c.truncate.new.self.items ≡ take cut b.items = c.truncate.ensures.items ∙ ap (λ x. take cut (vec_items x)) same in
    let order = c.deref.result.now in
    let tail : c.extend_from_slice.new.self.items ≡ drop cut b.items = c.in-Ok.ensures.items ∙ (ap (λ l. l ++ take (length order - cut) (drop cut order)) c.in_ok-tail.ensures.items ∙ (take_rest order cut ∙ ap (drop cut) (c.deref.ensures.value ∙ ap vec_items same))) in
    let size = c.requires.there.2 in
    let some = c.cut_of-cut.ensures.0 in let less = c.cut_of-cut.ensures.1 in
    let is = c.in-Ok-insert.ensures.items ∙ ap (λ l. insert (set l c.args.at c.truncate.new.self) (c.args.at + 1) c.extend_from_slice.new.self) reserved in
    let s = is_split vec_items blocks c.insert.new.self.items c.args.at cut b c.truncate.new.self c.extend_from_slice.new.self there is head tail some (omega (arith, less, size)) in
    s.filled

pub returns-then-position-cut-clause-room : goal.returns-then-position-cut-clause-room
returns-then-position-cut-clause-room g c =
    let blocks = c.args.self.now.blocks.items in let b = c.requires.there.0 in let there = c.requires.there.1 in
    let reserved = ap vec_items c.new_block.ensures.same.0 ∙ c.in_ok-reserve.ensures.items in let cut = c.cut_of-cut.result in
    let same : c.index_mut-block.result.now ≡ b = c.index_mut-block.ensures.value ∙ (ap (λ l. get_or l c.args.at c.index_mut-block.result.now) reserved ∙ get_or_from_slice_get blocks c.args.at b c.index_mut-block.result.now there) in
    let head : c.truncate.new.self.items ≡ take cut b.items = c.truncate.ensures.items ∙ ap (λ x. take cut (vec_items x)) same in
    let order = c.deref.result.now in
    let tail : c.extend_from_slice.new.self.items ≡ drop cut b.items = c.in-Ok.ensures.items ∙ (ap (λ l. l ++ take (length order - cut) (drop cut order)) c.in_ok-tail.ensures.items ∙ (take_rest order cut ∙ ap (drop cut) (c.deref.ensures.value ∙ ap vec_items same))) in
    let size = c.requires.there.2 in
    let some = c.cut_of-cut.ensures.0 in let less = c.cut_of-cut.ensures.1 in
    let is = c.in-Ok-insert.ensures.items ∙ ap (λ l. insert (set l c.args.at c.truncate.new.self) (c.args.at + 1) c.extend_from_slice.new.self) reserved in
    let s = is_split vec_items blocks c.insert.new.self.items c.args.at cut b c.truncate.new.self c.extend_from_slice.new.self there is head tail some (omega (arith, less, size)) in
    let long = ap length head ∙ length-take-le cut b.items (omega (arith, less, size)) in
    let whole = c.truncate.ensures.capacity ∙ ap vec_capacity same in let fits = b.ok.0 in let block = b.ok.1 in
    ((c.truncate.new.self, s.first, omega (arith, long, c.if-position-cut.true), omega (arith, long, whole, fits, block, size, less)), ap (λ n. n + c.args.position) s.rank)

pub returns-clause-same : goal.returns-clause-same
returns-clause-same g c =
    let blocks = c.args.self.now.blocks.items in let b = c.requires.there.0 in let there = c.requires.there.1 in
    let reserved = ap vec_items c.new_block.ensures.same.0 ∙ c.in_ok-reserve.ensures.items in let cut = c.cut_of-cut.result in
    let same : c.index_mut-block.result.now ≡ b = c.index_mut-block.ensures.value ∙ (ap (λ l. get_or l c.args.at c.index_mut-block.result.now) reserved ∙ get_or_from_slice_get blocks c.args.at b c.index_mut-block.result.now there) in
    let head : c.truncate.new.self.items ≡ take cut b.items = c.truncate.ensures.items ∙ ap (λ x. take cut (vec_items x)) same in
    let order = c.deref.result.now in
    let tail : c.extend_from_slice.new.self.items ≡ drop cut b.items = c.in-Ok.ensures.items ∙ (ap (λ l. l ++ take (length order - cut) (drop cut order)) c.in_ok-tail.ensures.items ∙ (take_rest order cut ∙ ap (drop cut) (c.deref.ensures.value ∙ ap vec_items same))) in
    let size = c.requires.there.2 in
    let some = c.cut_of-cut.ensures.0 in let less = c.cut_of-cut.ensures.1 in
    let is = c.in-Ok-insert.ensures.items ∙ ap (λ l. insert (set l c.args.at c.truncate.new.self) (c.args.at + 1) c.extend_from_slice.new.self) reserved in
    let s = is_split vec_items blocks c.insert.new.self.items c.args.at cut b c.truncate.new.self c.extend_from_slice.new.self there is head tail some (omega (arith, less, size)) in
    s.same

pub returns-clause-filled : goal.returns-clause-filled
returns-clause-filled g c =
    let blocks = c.args.self.now.blocks.items in let b = c.requires.there.0 in let there = c.requires.there.1 in
    let reserved = ap vec_items c.new_block.ensures.same.0 ∙ c.in_ok-reserve.ensures.items in let cut = c.cut_of-cut.result in
    let same : c.index_mut-block.result.now ≡ b = c.index_mut-block.ensures.value ∙ (ap (λ l. get_or l c.args.at c.index_mut-block.result.now) reserved ∙ get_or_from_slice_get blocks c.args.at b c.index_mut-block.result.now there) in
    let head : c.truncate.new.self.items ≡ take cut b.items = c.truncate.ensures.items ∙ ap (λ x. take cut (vec_items x)) same in
    let order = c.deref.result.now in
    let tail : c.extend_from_slice.new.self.items ≡ drop cut b.items = c.in-Ok.ensures.items ∙ (ap (λ l. l ++ take (length order - cut) (drop cut order)) c.in_ok-tail.ensures.items ∙ (take_rest order cut ∙ ap (drop cut) (c.deref.ensures.value ∙ ap vec_items same))) in
    let size = c.requires.there.2 in
    let some = c.cut_of-cut.ensures.0 in let less = c.cut_of-cut.ensures.1 in
    let is = c.in-Ok-insert.ensures.items ∙ ap (λ l. insert (set l c.args.at c.truncate.new.self) (c.args.at + 1) c.extend_from_slice.new.self) reserved in
    let s = is_split vec_items blocks c.insert.new.self.items c.args.at cut b c.truncate.new.self c.extend_from_slice.new.self there is head tail some (omega (arith, less, size)) in
    s.filled

pub returns-clause-room : goal.returns-clause-room
returns-clause-room g c =
    let blocks = c.args.self.now.blocks.items in let b = c.requires.there.0 in let there = c.requires.there.1 in
    let reserved = ap vec_items c.new_block.ensures.same.0 ∙ c.in_ok-reserve.ensures.items in let cut = c.cut_of-cut.result in
    let same : c.index_mut-block.result.now ≡ b = c.index_mut-block.ensures.value ∙ (ap (λ l. get_or l c.args.at c.index_mut-block.result.now) reserved ∙ get_or_from_slice_get blocks c.args.at b c.index_mut-block.result.now there) in
    let head : c.truncate.new.self.items ≡ take cut b.items = c.truncate.ensures.items ∙ ap (λ x. take cut (vec_items x)) same in
    let order = c.deref.result.now in
    let tail : c.extend_from_slice.new.self.items ≡ drop cut b.items = c.in-Ok.ensures.items ∙ (ap (λ l. l ++ take (length order - cut) (drop cut order)) c.in_ok-tail.ensures.items ∙ (take_rest order cut ∙ ap (drop cut) (c.deref.ensures.value ∙ ap vec_items same))) in
    let size = c.requires.there.2 in
    let some = c.cut_of-cut.ensures.0 in let less = c.cut_of-cut.ensures.1 in
    let is = c.in-Ok-insert.ensures.items ∙ ap (λ l. insert (set l c.args.at c.truncate.new.self) (c.args.at + 1) c.extend_from_slice.new.self) reserved in
    let s = is_split vec_items blocks c.insert.new.self.items c.args.at cut b c.truncate.new.self c.extend_from_slice.new.self there is head tail some (omega (arith, less, size)) in
    let long = ap length head ∙ length-take-le cut b.items (omega (arith, less, size)) in
    let whole = c.truncate.ensures.capacity ∙ ap vec_capacity same in let fits = b.ok.0 in let block = b.ok.1 in
    let left = ap length tail ∙ length-drop cut b.items in let past = c.if-position-cut.false in let most = c.requires.there.3 in
    let first = c.in_ok-tail.ensures.capacity in let kept = c.in-Ok.ensures.capacity in let next = s.next in
    ((c.extend_from_slice.new.self, s.second, omega (arith, left, size, most, past), omega (arith, left, size, some, first, kept)), omega (arith, next, long, past))
