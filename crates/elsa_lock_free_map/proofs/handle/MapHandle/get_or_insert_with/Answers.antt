use Rattle.std.proofs.Common.{◌≡◌, true, refl, rules, sym, ◌∙◌}
use Rattle.elsa_lock_free.specs.SharedList.{items_of}
use Rattle.elsa_lock_free.proofs.RuleLemmas.History.{items_prefix}
use Rattle.elsa_lock_free_map.proofs.MapLemmas.{inserts_later, key_at, lacks_before, later_at, one_value, stands_at, stands_holds}
use Rattle.elsa_lock_free_map.proofs.OnError.{on_error}
use Rattle.elsa_lock_free_map.proofs.handle.MapHandle.get_or_insert_with.Goals as goal

pub returns-in-Some-clause-inserted : goal.returns-in-Some-clause-inserted
returns-in-Some-clause-inserted g c =
    let f = c.in-Some.ensures.found in
    let old = items_of c.args.self.now.seen in
    let new = items_of c.find.new.self.seen in
    let here = stands_at g.K.PartialEq.eq new c.in-Some.known c.args.key c.entry.result.now f c.entry.ensures in (
      here,
      c.find.ensures.continues.2,
      λ j v h.
          let kept = later_at old new j h.0 (items_prefix c.args.self.now.seen c.find.new.self.seen c.find.ensures.continues.1) h.1 in
          let same = sym (g.met.K.Eq.laws.congr c.args.key f.0.key h.0.key f.2) ∙ h.2 in
          let index = c.one_to_one.ensures c.in-Some.known j f.0.key h.0.key (key_at new c.in-Some.known f.0 f.1) (key_at new j h.0 kept) same in
          (index, one_value g.K.PartialEq.eq new c.args.key c.in-Some.known j _ v index here (h.0, kept, h.2, h.3), refl),
    )

pub make-requires : goal.make-requires
make-requires g c =
    let p = items_prefix c.args.self.now.seen c.find.new.self.seen c.find.ensures.continues.1 in
    c.requires.callable (lacks_before g.K.PartialEq.eq (items_of c.args.self.now.seen) (items_of c.find.new.self.seen) c.args.key p c.in_default.ensures.absent)

pub returns-clause-inserted : goal.returns-clause-inserted
returns-clause-inserted g c =
    inserts_later g.K.PartialEq.eq c.args.self.now c.find.new.self c.insert_absent.new.self c.args.key _ c.find.ensures.continues c.in_ok-inserted.ensures.inserted

pub returns-in-Some-clause-value : goal.returns-in-Some-clause-value
returns-in-Some-clause-value g c =
    let new = items_of c.find.new.self.seen in
    (λ e. absurd (cc e), stands_holds g.K.PartialEq.eq g.L.EntryRule.holds new c.args.key c.in-Some.known c.entry.result.now.value c.obeys_rule.ensures (stands_at g.K.PartialEq.eq new c.in-Some.known c.args.key c.entry.result.now c.in-Some.ensures.found c.entry.ensures))

pub returns-clause-value : goal.returns-clause-value
returns-clause-value g c =
    let r = c.in_ok-inserted.inserted in
    let made : r.is_new ≡ true → goal.F-post g c.args.make r.value.now = search rules in
    (made, stands_holds g.K.PartialEq.eq g.L.EntryRule.holds (items_of c.insert_absent.new.self.seen) c.args.key r.index r.value.now c.obeys_rule-2.ensures c.in_ok-inserted.ensures.inserted.0)

pub returns-in_err-inserted-clause-only_new : goal.returns-in_err-inserted-clause-only_new
returns-in_err-inserted-clause-only_new g c =
    let p = items_prefix c.args.self.now.seen c.find.new.self.seen c.find.ensures.continues.1 in
    on_error c.from_residual.result (lacks_before g.K.PartialEq.eq (items_of c.args.self.now.seen) (items_of c.find.new.self.seen) c.args.key p c.in_default.ensures.absent)
