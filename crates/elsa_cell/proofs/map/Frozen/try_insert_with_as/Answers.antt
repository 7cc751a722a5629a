use Rattle.std.proofs.Common.{sym, ap, ◌∙◌}
use Rattle.std.specs.Option.{option_map}
use Rattle.elsa_cell.proofs.EntryLemmas.{absent_before, inserts_kept, inserts_later}
use Rattle.elsa_cell.proofs.map.Frozen.try_insert_with_as.Goals as goal

pub make-requires : goal.make-requires
make-requires g c = c.requires.callable (absent_before (g.T.Indices.same c.args.key) c.args.observed.now.seen c.find_key.new.observed.seen c.find_key.ensures.continues.seen
    (sym c.in-Ok.ensures.value ∙ ap (option_map (λ f. f.1.now)) c.in_default-found.is))

pub returns-in-Ok-insert_new_as-clause-inserted : goal.returns-in-Ok-insert_new_as-clause-inserted
returns-in-Ok-insert_new_as-clause-inserted g c =
    let eq = g.T.Indices.same in let old = c.args.observed.now.seen in let mid = c.find_key.new.observed.seen in let new = c.insert_new_as.new.observed.seen in let r = c.in-Ok-insert_new_as.inserted in
    inserts_kept eq old new c.args.key c.in-Ok-make.made r.value.now r.index r.is_new
    (inserts_later eq old mid new c.args.key c.in-Ok-make.made r.value.now r.index r.is_new c.find_key.ensures.continues.seen c.in-Ok-insert_new_as.ensures.inserted)
