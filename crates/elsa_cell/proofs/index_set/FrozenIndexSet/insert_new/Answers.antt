use Rattle.std.proofs.Common.{ap, ◌∙◌}
use Rattle.elsa_cell.proofs.EntryLemmas.{inserted_equal, inserted_own}
use Rattle.elsa_cell.proofs.index_set.FrozenIndexSet.insert_new.Goals as goal

pub returns-in-Ok-insert_entry-clause-equal : goal.returns-in-Ok-insert_entry-clause-equal
returns-in-Ok-insert_entry-clause-equal g c =
    let eq = g.T.PartialEq.eq in let r = c.in-Ok-insert_entry.inserted in let told = c.in-Ok-insert_entry.ensures in
    ap (eq c.args.item) c.key.ensures
    ∙ inserted_equal eq g.met.T.Eq.laws c.in-Ok.hold.seen c.insert_entry.new.self.seen c.args.item tt r.value.now.value r.index r.is_new r.value.now told.inserted told.entry.0

pub returns-in-Ok-insert_entry-clause-own_value : goal.returns-in-Ok-insert_entry-clause-own_value
returns-in-Ok-insert_entry-clause-own_value g c is_new =
    let eq = g.T.PartialEq.eq in let r = c.in-Ok-insert_entry.inserted in let told = c.in-Ok-insert_entry.ensures in
    c.key.ensures ∙ inserted_own eq c.in-Ok.hold.seen c.insert_entry.new.self.seen c.args.item tt r.value.now.value r.index r.is_new r.value.now told.inserted told.entry.0 is_new
