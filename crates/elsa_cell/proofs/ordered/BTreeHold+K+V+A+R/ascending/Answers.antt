use Rattle.std.proofs.Common.{◌<◌, length, slice_get, vec_items, ap, subst, sym, ◌∙◌, map}
use Rattle.elsa_cell.specs.Entries.{key_of}
use Rattle.elsa_cell.specs.Ordered.{IsInOrder, IsWalkAt, joined, picked}
use Rattle.elsa_cell.proofs.BlockLemmas.{walk_first}
use Rattle.elsa_cell.proofs.OrderLemmas.{counted}
use Rattle.elsa_cell.proofs.WalkLemmas.{entries_within, in_order}
use Rattle.elsa_cell.proofs.ordered.BTreeHold+K+V+A+R.ascending.Goals as goal

pub invariant_of-result : goal.invariant_of-result
invariant_of-result g c =
    let es = c.self.inside.state.value.list.prefix.items in let blocks = c.self.inside.state.value.table.blocks.items in let table = c.self.invariant.0.1 in
    let s = sym c.self.invariant.2 ∙ sym (ap (λ v. v.seen) c.again.ensures.same_view) in
    let same = c.as_slice.ensures.value ∙ ap (λ b. b.table.blocks.items) c.deref.ensures in
    let left = ap (λ b. b.table.count) c.deref-2.ensures ∙ (table.counted ∙ sym (counted g.K.Ord.cmp (joined vec_items blocks) (map key_of es) table.ordered)) in (
      subst (λ l. IsWalkAt vec_items l 0 0 c.deref-2.result.now.table.count) (sym same) (walk_first vec_items blocks c.deref-2.result.now.table.count table.filled left),
      λ r i at. subst (λ l. i < length l) s (entries_within g.K.Ord.cmp es (joined vec_items blocks) table.ordered r i (sym (ap (λ l. slice_get (joined vec_items l) r) same) ∙ at)),
    )

pub returns : goal.returns
returns g c =
    let cmp = g.K.Ord.cmp in let es = c.self.inside.state.value.list.prefix.items in let order = joined vec_items c.self.inside.state.value.table.blocks.items in
    let a = c.args.self.now.seen in
    let first = subst (λ l. IsInOrder cmp l (picked l order)) (sym c.self.invariant.2 ∙ ap (λ v. v.seen) c.self.view_is) (in_order cmp es order c.self.invariant.0.1.ordered) in
    let second = subst (λ l. IsInOrder cmp a (picked l order)) (sym (ap (λ v. v.seen) (c.again.ensures.same_view ∙ c.self.view_is))) first in
    record { in_order = subst (λ l. IsInOrder cmp a (picked c.again.result.seen (joined vec_items l))) (sym (c.as_slice.ensures.value ∙ ap (λ b. b.table.blocks.items) c.deref.ensures)) second }
