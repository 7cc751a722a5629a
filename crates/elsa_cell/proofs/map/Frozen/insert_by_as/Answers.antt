use Rattle.std.proofs.Common.{sym, ap, ◌∙◌, inr}
use Rattle.std.specs.Option.{option_map}
use Rattle.elsa_cell.proofs.EntryLemmas.{absent_before, inserts_later}
use Rattle.elsa_cell.proofs.map.Frozen.insert_by_as.Goals as goal

pub make-requires : goal.make-requires
make-requires g c = c.requires.callable (absent_before (g.Q.Seeks.finds c.args.query) c.args.observed.now.seen c.find_all-known.new.observed.seen c.find_all-known.ensures.continues.seen
    (sym c.find_all-known.ensures.value ∙ ap (option_map (λ f. f.1.now.value)) c.in_default.is))

pub returns-in-Ok-insert_new_as-clause-inserted : goal.returns-in-Ok-insert_new_as-clause-inserted
returns-in-Ok-insert_new_as-clause-inserted g c =
    let eq = g.T.Indices.same in let old = c.args.observed.now.seen in let mid = c.find_all-known.new.observed.seen in let new = c.insert_new_as.new.observed.seen in let r = c.in-Ok-insert_new_as.inserted in let made = c.in-Ok.made in
    inr (made.0, made.1, c.in-Ok.ensures, inserts_later eq old mid new made.0 made.1 r.value.now r.index r.is_new c.find_all-known.ensures.continues.seen c.in-Ok-insert_new_as.ensures.inserted)
