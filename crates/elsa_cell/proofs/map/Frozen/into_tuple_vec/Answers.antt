use Rattle.std.proofs.Common.{ap, subst, sym, ◌∙◌}
use mathlib.Core.List.{IsPrefix}
use Rattle.elsa_cell.proofs.EntryLemmas.{pairs_begin}
use Rattle.elsa_cell.proofs.map.Frozen.into_tuple_vec.Goals as goal

pub returns-clause-items : goal.returns-clause-items
returns-clause-items g c =
    let seen = c.args.seen.now.seen in
    let moved = c.move_items.ensures.received ∙ ap (λ l. l.prefix.items) c.into_list.ensures in
    pairs_begin seen c.move_items.new.to.items.items (subst (λ es. IsPrefix seen es) (sym moved) (subst (λ b. IsPrefix seen b.list.prefix.items) (sym c.into_inner.ensures) c.in_ok-entries.ensures.items))
