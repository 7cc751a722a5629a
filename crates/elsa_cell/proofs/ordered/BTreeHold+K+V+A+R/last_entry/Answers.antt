use Rattle.std.proofs.Common.{◌<◌, List, length, map, slice_get, vec_items, arith, ap, refl, subst, sym, ◌∙◌}
use Rattle.std.proofs.lemmas.List.{length-map}
use Rattle.std.specs.Option.{option_map}
use Rattle.elsa_cell.specs.Entries.{key_of}
use Rattle.elsa_cell.specs.Ordered.{IsOrdered, joined}
use Rattle.elsa_cell.specs.declared.map.Entry.{Entry}
use Rattle.elsa_cell.proofs.EntryLemmas.{get_map}
use Rattle.elsa_cell.proofs.OrderLemmas.{counted}
use Rattle.elsa_cell.proofs.WalkLemmas.{entries_within, greatest_last}
use Rattle.elsa_cell.proofs.ordered.BTreeHold+K+V+A+R.last_entry.Goals as goal

pub last-requires-clause-some : goal.last-requires-clause-some
last-requires-clause-some g c =
    let cmp = g.K.Ord.cmp in let seen = c.args.self.now.seen in let order = joined vec_items c.deref.result.now.table.blocks.items in
    let kept = subst (λ (l : List (Entry g.row.K.Denot g.row.V.Denot)). IsOrdered cmp (joined vec_items c.self.inside.state.value.table.blocks.items) (map key_of l)) (sym c.self.invariant.2 ∙ ap (λ v. v.seen) c.self.view_is) c.self.invariant.0.1.ordered in
    let o = subst (λ l. IsOrdered cmp l (map key_of seen)) (sym (ap (λ b. joined vec_items b.table.blocks.items) c.deref.ensures)) kept in
    let n = counted cmp order (map key_of seen) o in let l = length-map seen key_of in let some = c.requires in omega (arith, n, l, some)

pub item-requires : goal.item-requires
item-requires g c =
    let cmp = g.K.Ord.cmp in let seen = c.self.inside.observed.seen in let order = joined vec_items c.deref.result.now.table.blocks.items in
    let kept = subst (λ (l : List (Entry g.row.K.Denot g.row.V.Denot)). IsOrdered cmp (joined vec_items c.self.inside.state.value.table.blocks.items) (map key_of l)) (sym c.self.invariant.2) c.self.invariant.0.1.ordered in
    let o = subst (λ l. IsOrdered cmp l (map key_of seen)) (sym (ap (λ b. joined vec_items b.table.blocks.items) c.deref.ensures)) kept in
    record { seen = entries_within cmp seen order o c.last.ensures.0 c.last.result c.last.ensures.1 }

pub returns-clause-greatest : goal.returns-clause-greatest
returns-clause-greatest g c =
    let cmp = g.K.Ord.cmp in let seen = c.args.self.now.seen in let order = joined vec_items c.deref.result.now.table.blocks.items in
    let kept = subst (λ (l : List (Entry g.row.K.Denot g.row.V.Denot)). IsOrdered cmp (joined vec_items c.self.inside.state.value.table.blocks.items) (map key_of l)) (sym c.self.invariant.2 ∙ ap (λ v. v.seen) c.self.view_is) c.self.invariant.0.1.ordered in
    let o = subst (λ l. IsOrdered cmp l (map key_of seen)) (sym (ap (λ b. joined vec_items b.table.blocks.items) c.deref.ensures)) kept in
    let i = c.last.result in
    greatest_last cmp g.met.K.Ord.total order (map key_of seen) o c.last.ensures.0 i (key_of c.item.result.now) (c.last.ensures.2 ∙ counted cmp order (map key_of seen) o) c.last.ensures.1 (get_map key_of seen i ∙ ap (option_map key_of) (ap (λ l. slice_get l i) (sym (ap (λ v. v.seen) c.self.view_is)) ∙ c.item.ensures.item))
