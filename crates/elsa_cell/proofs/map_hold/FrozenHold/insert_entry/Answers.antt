use Rattle.std.proofs.Common.{◌≡◌, ◌++◌, ◌∷◌, [], length, map, position, refl, sym, ap, ◌∙◌, List, slice_get, length-append, arith}
use Rattle.std.specs.Option.{option_map}
use Rattle.elsa_cell.specs.Entries.{key_of}
use Rattle.elsa_cell.specs.declared.map.Entry.{Entry}
use Rattle.elsa_cell.proofs.EntryLemmas.{absent_at, appended_at, value_at}
use Rattle.elsa_cell.proofs.map_hold.FrozenHold.insert_entry.Goals as goal

-- The key is present.
pub returns-in-Ok-clause-inserted : goal.returns-in-Ok-clause-inserted
returns-in-Ok-clause-inserted g c =
    let eq = g.T.Indices.same c.args.key in let seen = c.args.self.now.seen in
    let s = ap (λ v. v.seen) c.self.view_is in
    let at = sym (ap (λ (l : List (Entry g.row.K.Denot g.row.V.Denot)). position eq (map key_of l)) s) ∙ c.in-Ok.ensures.found in
    (value_at eq seen c.in-Ok.present at ∙ ap (option_map (λ e. e.value)) (ap (λ (l : List (Entry g.row.K.Denot g.row.V.Denot)). slice_get l c.in-Ok.present) (sym s) ∙ c.item.ensures.item), at, refl)

-- The entry is appended.
pub returns-in-Ok-add-clause-inserted : goal.returns-in-Ok-add-clause-inserted
returns-in-Ok-add-clause-inserted g c =
    let eq = g.T.Indices.same c.args.key in let seen = c.args.self.now.seen in let new = c.set_observed.new.observed.seen in
    let e : Entry g.row.K.Denot g.row.V.Denot = record { key = c.args.key; value = c.args.value } in
    let s = ap (λ v. v.seen) c.self.view_is in
    let m = ap (λ b. b.list.prefix.items) c.deref_mut.ensures.value ∙ (sym c.self.invariant.2 ∙ s) in
    let none = sym (ap (λ (l : List (Entry g.row.K.Denot g.row.V.Denot)). position eq (map key_of l)) s) ∙ c.in-Err.ensures.absent in
    let grown : new ≡ seen ++ e ∷ [] = (ap (λ v. v.seen) c.set_observed.ensures ∙ (c.evidence_of-seen.ensures.items ∙ ap (λ b. b.list.prefix.items) c.deref-in-Ok-add.ensures)) ∙ (c.in-Ok-add.ensures.pushed.2 ∙ ap (λ l. l ++ e ∷ []) m) in
    let at = c.in-Ok-add.ensures.pushed.0 ∙ ap length m in
    (absent_at eq seen none, (e, refl, grown), ap (λ f. f.value) c.in-Ok-add.ensures.pushed.1, at)

pub returns-in-Ok-add-clause-entry : goal.returns-in-Ok-add-clause-entry
returns-in-Ok-add-clause-entry g c =
    let seen = c.args.self.now.seen in let new = c.set_observed.new.observed.seen in
    let e : Entry g.row.K.Denot g.row.V.Denot = record { key = c.args.key; value = c.args.value } in
    let m = ap (λ b. b.list.prefix.items) c.deref_mut.ensures.value ∙ (sym c.self.invariant.2 ∙ ap (λ v. v.seen) c.self.view_is) in
    let all : c.add.new.self.list.prefix.items ≡ seen ++ e ∷ [] = c.in-Ok-add.ensures.pushed.2 ∙ ap (λ l. l ++ e ∷ []) m in
    let grown : new ≡ seen ++ e ∷ [] = (ap (λ v. v.seen) c.set_observed.ensures ∙ (c.evidence_of-seen.ensures.items ∙ ap (λ b. b.list.prefix.items) c.deref-in-Ok-add.ensures)) ∙ all in
    let at = c.in-Ok-add.ensures.pushed.0 ∙ ap length m in
    let many = ap length all ∙ length-append seen (e ∷ []) in let limit = c.add.ensures.state.2 in
    (appended_at seen new e c.in-Ok-add.entry.now c.in-Ok-add.index grown at c.in-Ok-add.ensures.pushed.1, omega (arith, at, many, limit))

-- There is no room.
pub returns-clause-refused : goal.returns-clause-refused
returns-clause-refused g c =
    let eq = g.T.Indices.same c.args.key in
    let s = ap (λ v. v.seen) c.self.view_is in
    let none = sym (ap (λ (l : List (Entry g.row.K.Denot g.row.V.Denot)). position eq (map key_of l)) s) ∙ c.in-Err.ensures.absent in
    (c.self.view_is, absent_at eq c.args.self.now.seen none)

-- It continues the entries before.
pub returns-in-Ok-add-clause-continues : goal.returns-in-Ok-add-clause-continues
returns-in-Ok-add-clause-continues g c =
    let e : Entry g.row.K.Denot g.row.V.Denot = record { key = c.args.key; value = c.args.value } in
    let m = ap (λ b. b.list.prefix.items) c.deref_mut.ensures.value ∙ (sym c.self.invariant.2 ∙ ap (λ v. v.seen) c.self.view_is) in
    record {
      same = ap (λ v. v.vector) c.set_observed.ensures ∙ (c.evidence_of-seen.ensures.vector ∙ (c.slots_of-slots.ensures ∙ ap (λ v. v.vector) c.self.view_is));
      seen = (e ∷ [], sym ((ap (λ v. v.seen) c.set_observed.ensures ∙ (c.evidence_of-seen.ensures.items ∙ ap (λ b. b.list.prefix.items) c.deref-in-Ok-add.ensures)) ∙ (c.in-Ok-add.ensures.pushed.2 ∙ ap (λ l. l ++ e ∷ []) m)));
    }
