use Rattle.std.proofs.Common.{refl, subst, sym, ◌∙◌}
use Rattle.std.specs.Str.{bytes_eq}
use Rattle.std.specs.Cmp.Lexicographic.{nat_list_eq_equiv}
use Rattle.elsa_lock_free.specs.SharedList.{items_of}
use Rattle.elsa_lock_free.proofs.RuleLemmas.History.{items_prefix}
use Rattle.elsa_lock_free_map.specs.Entries.{InsertsOnce, is_text}
use Rattle.elsa_lock_free_map.proofs.MapLemmas.{inserts_since, key_at, lacks_before, later_at, one_value, stands_at, text_stands}
use Rattle.elsa_lock_free_map.proofs.OnError.{on_error}
use Rattle.elsa_lock_free_map.proofs.text.MapHandle+ref+str+V+S+A.insert_text.Goals as goal

pub returns-in-Some-clause-inserted : goal.returns-in-Some-clause-inserted
returns-in-Some-clause-inserted g c =
    let f = c.in-Some.ensures.found in
    let old = items_of c.args.self.now.seen in
    let new = items_of c.find.new.self.seen in
    let here = stands_at is_text new c.in-Some.index c.args.text.now c.entry.result.now (f.0, f.1, f.2) c.entry.ensures in (
      here,
      c.find.ensures.continues.2,
      λ j v h.
          let kept = later_at old new j h.0 (items_prefix c.args.self.now.seen c.find.new.self.seen c.find.ensures.continues.1) h.1 in
          let same = sym (nat_list_eq_equiv.congr c.args.text.now f.0.key.now h.0.key.now f.2) ∙ h.2 in
          let index = c.one_to_one.ensures c.in-Some.index j f.0.key h.0.key (key_at new c.in-Some.index f.0 f.1) (key_at new j h.0 kept) same in
          (index, one_value is_text new c.args.text.now c.in-Some.index j _ v index here (h.0, kept, h.2, h.3), refl),
    )

pub returns-clause-inserted : goal.returns-clause-inserted
returns-clause-inserted g c =
    let old = items_of c.args.self.now.seen in
    let p = items_prefix c.args.self.now.seen c.find.new.self.seen c.find.ensures.continues.1 in
    let lacks = lacks_before is_text old (items_of c.find.new.self.seen) c.args.text.now p c.in_default.ensures.absent in
    let after = c.insert_absent.new.self in
    let r = c.copied.result in
    let s = subst (λ r. InsertsOnce (λ a b. bytes_eq a.now b.now) c.find.new.self after c.in_ok-key.key r) (sym c.copied.ensures) c.in_ok-insert_absent.ensures.inserted in
    let here = text_stands (items_of after.seen) c.args.text.now c.in_ok-key.key c.in_ok-key.ensures r.index r.value s.0 in
    inserts_since is_text c.args.self.now c.find.new.self after c.args.text.now r c.find.ensures.continues lacks here s.1

pub returns-in_err-key-clause-only_new : goal.returns-in_err-key-clause-only_new
returns-in_err-key-clause-only_new g c =
    let p = items_prefix c.args.self.now.seen c.find.new.self.seen c.find.ensures.continues.1 in
    on_error c.from_residual.result (lacks_before is_text (items_of c.args.self.now.seen) (items_of c.find.new.self.seen) c.args.text.now p c.in_default.ensures.absent)

pub returns-in_err-insert_absent-clause-only_new : goal.returns-in_err-insert_absent-clause-only_new
returns-in_err-insert_absent-clause-only_new g c =
    let p = items_prefix c.args.self.now.seen c.find.new.self.seen c.find.ensures.continues.1 in
    on_error c.from_residual-in_err-insert_absent.result (lacks_before is_text (items_of c.args.self.now.seen) (items_of c.find.new.self.seen) c.args.text.now p c.in_default.ensures.absent)
