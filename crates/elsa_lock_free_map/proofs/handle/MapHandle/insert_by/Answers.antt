use Rattle.std.proofs.Common.{refl, sym, ◌∙◌, inl, inr}
use Rattle.elsa_lock_free.specs.SharedList.{items_of}
use Rattle.elsa_lock_free.proofs.RuleLemmas.History.{items_prefix}
use Rattle.elsa_lock_free_map.proofs.MapLemmas.{inserts_later, key_at, lacks_before, later_at, one_value, stands_at, stands_holds}
use Rattle.elsa_lock_free_map.proofs.handle.MapHandle.insert_by.Goals as goal

pub returns-in-Some-clause-inserted : goal.returns-in-Some-clause-inserted
returns-in-Some-clause-inserted g c =
    let finds = g.Q.Equivalent.equivalent in
    let f = c.in-Some.ensures.found in
    let old = items_of c.args.self.now.seen in
    let new = items_of c.find.new.self.seen in
    let here = stands_at finds new c.in-Some.present c.args.query c.entry.result.now f c.entry.ensures in
    inl (
      refl,
      (
        here,
        c.find.ensures.continues.2,
        λ j v h.
            let kept = later_at old new j h.0 (items_prefix c.args.self.now.seen c.find.new.self.seen c.find.ensures.continues.1) h.1 in
            let same = sym (g.met.Q.Equivalent.respects_eq c.args.query f.0.key h.0.key f.2) ∙ h.2 in
            let index = c.one_to_one.ensures c.in-Some.present j f.0.key h.0.key (key_at new c.in-Some.present f.0 f.1) (key_at new j h.0 kept) same in
            (index, one_value finds new c.args.query c.in-Some.present j _ v index here (h.0, kept, h.2, h.3), refl),
      ),
    )

pub returns-in-Some-clause-holds : goal.returns-in-Some-clause-holds
returns-in-Some-clause-holds g c =
    let finds = g.Q.Equivalent.equivalent in
    let new = items_of c.find.new.self.seen in
    inl (stands_holds finds g.L.EntryRule.holds new c.args.query c.in-Some.present c.entry.result.now.value c.obeys_rule.ensures (stands_at finds new c.in-Some.present c.args.query c.entry.result.now c.in-Some.ensures.found c.entry.ensures))

pub returns-in-Ok-insert_ref-clause-holds : goal.returns-in-Ok-insert_ref-clause-holds
returns-in-Ok-insert_ref-clause-holds g c =
    let made = c.in-Ok.made in
    inr (made.0, made.1, c.in-Ok.ensures, c.in-Ok-insert_ref.ensures.value.1)

pub make-requires : goal.make-requires
make-requires g c =
    let p = items_prefix c.args.self.now.seen c.find.new.self.seen c.find.ensures.continues.1 in
    c.requires.callable (lacks_before g.Q.Equivalent.equivalent (items_of c.args.self.now.seen) (items_of c.find.new.self.seen) c.args.query p c.in_default.ensures.absent)

pub returns-in-Ok-insert_ref-clause-inserted : goal.returns-in-Ok-insert_ref-clause-inserted
returns-in-Ok-insert_ref-clause-inserted g c =
    let made = c.in-Ok.made in
    let p = items_prefix c.args.self.now.seen c.find.new.self.seen c.find.ensures.continues.1 in
    let lacks = lacks_before g.Q.Equivalent.equivalent (items_of c.args.self.now.seen) (items_of c.find.new.self.seen) c.args.query p c.in_default.ensures.absent in
    let done = c.in-Ok-insert_ref.ensures in
    inr (made.0, made.1, c.in-Ok.ensures, lacks, inserts_later g.K.PartialEq.eq c.args.self.now c.find.new.self c.insert_ref.new.self made.0 _ c.find.ensures.continues done.inserted, done.value.0)

pub returns-in-Err-clause-only_new : goal.returns-in-Err-clause-only_new
returns-in-Err-clause-only_new g c =
    let p = items_prefix c.args.self.now.seen c.find.new.self.seen c.find.ensures.continues.1 in
    lacks_before g.Q.Equivalent.equivalent (items_of c.args.self.now.seen) (items_of c.find.new.self.seen) c.args.query p c.in_default.ensures.absent

pub returns-in-Err-insert_ref-clause-only_new : goal.returns-in-Err-insert_ref-clause-only_new
returns-in-Err-insert_ref-clause-only_new g c =
    let p = items_prefix c.args.self.now.seen c.find.new.self.seen c.find.ensures.continues.1 in
    lacks_before g.Q.Equivalent.equivalent (items_of c.args.self.now.seen) (items_of c.find.new.self.seen) c.args.query p c.in_default.ensures.absent
