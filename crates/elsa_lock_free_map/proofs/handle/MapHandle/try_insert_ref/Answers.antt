use Rattle.std.proofs.Common.{refl, sym, ◌∙◌}
use Rattle.elsa_lock_free.specs.SharedList.{items_of}
use Rattle.elsa_lock_free_map.proofs.MapLemmas.{key_at, one_value, stands_at, stands_holds}
use Rattle.elsa_lock_free_map.proofs.handle.MapHandle.try_insert_ref.Goals as goal

pub returns-in-Some-clause-inserted : goal.returns-in-Some-clause-inserted
returns-in-Some-clause-inserted g c =
    let f = c.in-Some.ensures.found in
    let es = items_of c.args.self.now.seen in
    let here = stands_at g.K.PartialEq.eq es c.in-Some.observed c.args.key c.entry.result.now f c.entry.ensures in (
      here,
      refl,
      λ j v h.
          let same = sym (g.met.K.Eq.laws.congr c.args.key f.0.key h.0.key f.2) ∙ h.2 in
          let index = c.one_to_one.ensures c.in-Some.observed j f.0.key h.0.key (key_at es c.in-Some.observed f.0 f.1) (key_at es j h.0 h.1) same in
          (index, one_value g.K.PartialEq.eq es c.args.key c.in-Some.observed j _ v index here h, refl),
    )

pub returns-in-Some-clause-value : goal.returns-in-Some-clause-value
returns-in-Some-clause-value g c =
    let es = items_of c.args.self.now.seen in
    (λ e. absurd (cc e), stands_holds g.K.PartialEq.eq g.L.EntryRule.holds es c.args.key c.in-Some.observed c.entry.result.now.value c.obeys_rule.ensures (stands_at g.K.PartialEq.eq es c.in-Some.observed c.args.key c.entry.result.now c.in-Some.ensures.found c.entry.ensures))

pub returns-clause-value : goal.returns-clause-value
returns-clause-value g c =
    let r = c.in_ok-inserted.inserted in
    (c.in_ok-inserted.ensures.own_value, stands_holds g.K.PartialEq.eq g.L.EntryRule.holds (items_of c.try_insert_absent.new.self.seen) c.args.key r.index r.value.now c.obeys_rule-2.ensures c.in_ok-inserted.ensures.inserted.0)
