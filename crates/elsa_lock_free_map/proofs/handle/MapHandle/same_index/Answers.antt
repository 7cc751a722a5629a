use Rattle.std.proofs.Common.{subst, ◌∙◌}
use Rattle.elsa_lock_free.specs.SharedList.{View, items_of}
use Rattle.elsa_hash_index.specs.declared.entry.Entry.{Entry}
use Rattle.elsa_lock_free_map.specs.Entries.{AgreeOnEntries}
use Rattle.elsa_lock_free_map.proofs.handle.MapHandle.same_index.Goals as goal

pub returns-clause-value : goal.returns-clause-value
returns-clause-value g c =
    let one = c.deref.ensures ∙ c.self.view_is in
    let other = c.deref-2.ensures ∙ c.other.view_is in
    subst (λ (w : View (Entry g.row.K.Denot g.row.V.Denot g.row.S.Denot)). AgreeOnEntries g.K.PartialEq.eq (items_of w.seen) (items_of c.args.other.now.seen)) one
    (subst (λ (w : View (Entry g.row.K.Denot g.row.V.Denot g.row.S.Denot)). AgreeOnEntries g.K.PartialEq.eq (items_of c.deref.result.now.seen) (items_of w.seen)) other c.same_index.ensures.value)
