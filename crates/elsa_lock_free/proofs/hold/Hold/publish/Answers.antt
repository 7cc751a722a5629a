use Rattle.std.proofs.Common.{◌≡◌, ◌∷◌, [], ◌-◌, ◌<◌, ℕ, List, true, suc, Some, slice_get, length, length-append, refl, ap, sym, ◌∙◌, arith, subst}
use Rattle.std.proofs.lemmas.List.{append-nil}
use Rattle.elsa_slots.specs.Geometry.{IsAt}
use Rattle.elsa_slots.proofs.GeometryLemmas.Powers.{four_pos}
use Rattle.elsa_lock_free.specs.declared.event.Entry.{Entry}
use Rattle.elsa_lock_free.specs.declared.event.Event.TheVariants.{Acquired}
use Rattle.elsa_lock_free.specs.SharedList.{BeginsABuffer, count, entry, items_of}
use Rattle.elsa_lock_free.specs.History.{list_of, added, is_held}
use Rattle.elsa_lock_free.specs.Rights.{head}
use Rattle.elsa_lock_free.proofs.RuleLemmas.WriterIndices.{push_indices}
use Rattle.elsa_lock_free.proofs.RuleLemmas.History.{held_snoc, items_length}
use Rattle.elsa_lock_free.proofs.RuleLemmas.Hold.{before_slot, later_slot}
use Rattle.elsa_lock_free.proofs.RuleLemmas.HoldEnd.{acquired_list, published_count}
use Rattle.elsa_lock_free.proofs.hold.Hold.publish.Goals as goal

pub overflow_sub-at : goal.overflow_sub-at
overflow_sub-at g c =
    let h = c.self.inside in let v = h.seen.log in let r = h.right in let inv = c.self.invariant in
    let n : h.at ≡ length (list_of v) = inv.2 ∙ sym (ap length (acquired_list r.answer v inv.1)) in
    let seen : list_of v ≡ c.args.self.seen = ap (λ w. w.seen) c.self.view_is in
    let len : h.at ≡ length c.args.self.seen = n ∙ ap length seen in
    let later : 0 < h.slot = later_slot h.at h.buffer h.slot inv.4 inv.5 (subst (λ (k : ℕ). BeginsABuffer k → ⊥) (sym len) c.requires.later) in
    let at = before_slot h.at h.buffer h.slot inv.4 later in let f = inv.4.begins in let p = four_pos h.buffer in omega (arith, f, p, later)

pub overflow_sub-slot : goal.overflow_sub-slot
overflow_sub-slot g c =
    let h = c.self.inside in let v = h.seen.log in let r = h.right in let inv = c.self.invariant in
    let n : h.at ≡ length (list_of v) = inv.2 ∙ sym (ap length (acquired_list r.answer v inv.1)) in
    let seen : list_of v ≡ c.args.self.seen = ap (λ w. w.seen) c.self.view_is in
    let len : h.at ≡ length c.args.self.seen = n ∙ ap length seen in
    let later : 0 < h.slot = later_slot h.at h.buffer h.slot inv.4 inv.5 (subst (λ (k : ℕ). BeginsABuffer k → ⊥) (sym len) c.requires.later) in
    omega (arith, later)

pub at-source-requires : goal.at-source-requires
at-source-requires g c =
    let h = c.self.inside in let v = h.seen.log in let r = h.right in let inv = c.self.invariant in
    let n : h.at ≡ length (list_of v) = inv.2 ∙ sym (ap length (acquired_list r.answer v inv.1)) in
    let seen : list_of v ≡ c.args.self.seen = ap (λ w. w.seen) c.self.view_is in
    let len : h.at ≡ length c.args.self.seen = n ∙ ap length seen in
    let later : 0 < h.slot = later_slot h.at h.buffer h.slot inv.4 inv.5 (subst (λ (k : ℕ). BeginsABuffer k → ⊥) (sym len) c.requires.later) in
    let f = inv.4.begins in let p = four_pos h.buffer in let i = ap length c.evidence-prefix.ensures.1 ∙ items_length (list_of v) in (omega (arith, f, p, later, n, i), before_slot h.at h.buffer h.slot inv.4 later)

pub take_acquired_open-held-requires : goal.take_acquired_open-held-requires
take_acquired_open-held-requires g c =
    let h = c.self.inside in let v = h.seen.log in let r = h.right in let inv = c.self.invariant in
    let n : h.at ≡ length (list_of v) = inv.2 ∙ sym (ap length (acquired_list r.answer v inv.1)) in
    let seen : list_of v ≡ c.args.self.seen = ap (λ w. w.seen) c.self.view_is in
    let len : h.at ≡ length c.args.self.seen = n ∙ ap length seen in
    let later : 0 < h.slot = later_slot h.at h.buffer h.slot inv.4 inv.5 (subst (λ (k : ℕ). BeginsABuffer k → ⊥) (sym len) c.requires.later) in
    (subst (λ (k : ℕ). IsAt k h.buffer h.slot) inv.2 inv.4, later)

pub publish-seen-requires-clause-held : goal.publish-seen-requires-clause-held
publish-seen-requires-clause-held g c =
    let h = c.self.inside in let v = h.seen.log in let r = h.right in let inv = c.self.invariant in
    let n : h.at ≡ length (list_of v) = inv.2 ∙ sym (ap length (acquired_list r.answer v inv.1)) in
    let seen : list_of v ≡ c.args.self.seen = ap (λ w. w.seen) c.self.view_is in
    let len : h.at ≡ length c.args.self.seen = n ∙ ap length seen in
    (c.take_acquired_open-held.ensures.0 ∙ ap head inv.0, c.take_acquired_open-held.ensures.1 ∙ ap added (sym inv.1), ap is_held inv.1 ∙ held_snoc true r.answer Acquired)

pub publish-seen-requires-clause-fits : goal.publish-seen-requires-clause-fits
publish-seen-requires-clause-fits g c =
    let h = c.self.inside in let v = h.seen.log in let r = h.right in let inv = c.self.invariant in
    let n : h.at ≡ length (list_of v) = inv.2 ∙ sym (ap length (acquired_list r.answer v inv.1)) in
    let seen : list_of v ≡ c.args.self.seen = ap (λ w. w.seen) c.self.view_is in
    let len : h.at ≡ length c.args.self.seen = n ∙ ap length seen in
    let items : c.evidence-prefix.result.items ≡ items_of c.args.self.seen = c.evidence-prefix.ensures.1 ∙ ap items_of seen in
    let last = c.at-source.ensures.item in
    let here : slice_get (items_of c.args.self.seen) (length c.args.self.seen - 1) ≡ Some c.at-source.result.1.value = sym (ap (λ l. slice_get l (length c.args.self.seen - 1)) items) ∙ (ap (λ k. slice_get c.evidence-prefix.result.items (k - 1)) (sym len) ∙ last.1) in
    subst (λ b. g.X.Beside.fits b.1 c.args.item) (sym c.agrees.ensures) (c.requires.fits c.at-source.result.0.value.1 c.at-source.result.1.value here last.2)

pub publish-seen-requires-clause-length : goal.publish-seen-requires-clause-length
publish-seen-requires-clause-length g c =
    let h = c.self.inside in let v = h.seen.log in let r = h.right in let inv = c.self.invariant in
    let n : h.at ≡ length (list_of v) = inv.2 ∙ sym (ap length (acquired_list r.answer v inv.1)) in
    let seen : list_of v ≡ c.args.self.seen = ap (λ w. w.seen) c.self.view_is in
    let len : h.at ≡ length c.args.self.seen = n ∙ ap length seen in
    (n, inv.3)

pub released-requires-clause-length : goal.released-requires-clause-length
released-requires-clause-length g c =
    let h = c.self.inside in let v = h.seen.log in let r = h.right in let inv = c.self.invariant in
    let n : h.at ≡ length (list_of v) = inv.2 ∙ sym (ap length (acquired_list r.answer v inv.1)) in
    let seen : list_of v ≡ c.args.self.seen = ap (λ w. w.seen) c.self.view_is in
    let len : h.at ≡ length c.args.self.seen = n ∙ ap length seen in let a = suc c.parts-before.result.1.name in
    let l = ap length c.publish-seen.ensures.seen in let m = length-append (list_of v) (entry a c.args.item ∷ []) in (omega (arith, n, l, m), inv.3)

pub publish-seen-requires-clause-mine : goal.publish-seen-requires-clause-mine
publish-seen-requires-clause-mine g c =
    let h = c.self.inside in let v = h.seen.log in let r = h.right in let inv = c.self.invariant in
    let n : h.at ≡ length (list_of v) = inv.2 ∙ sym (ap length (acquired_list r.answer v inv.1)) in
    let seen : list_of v ≡ c.args.self.seen = ap (λ w. w.seen) c.self.view_is in
    let len : h.at ≡ length c.args.self.seen = n ∙ ap length seen in
    let p = c.parts-before.ensures in let a = suc c.parts-before.result.1.name in let used = c.parts-before.result.1.used in
    let was = sym c.handle.view_is ∙ (sym c.lend.ensures.same_view ∙ p.same_view) in
    let whole : list_of v ≡ list_of c.parts-before.result.0.log = seen ∙ (c.requires.held.1 ∙ ap (λ w. w.seen) was) in
    let mine : count a (list_of v) ≡ used = ap (count a) whole ∙ p.mine in
    omega (arith, mine)

pub released-requires-clause-mine : goal.released-requires-clause-mine
released-requires-clause-mine g c =
    let h = c.self.inside in let v = h.seen.log in let r = h.right in let inv = c.self.invariant in
    let n : h.at ≡ length (list_of v) = inv.2 ∙ sym (ap length (acquired_list r.answer v inv.1)) in
    let seen : list_of v ≡ c.args.self.seen = ap (λ w. w.seen) c.self.view_is in
    let len : h.at ≡ length c.args.self.seen = n ∙ ap length seen in
    let p = c.parts-before.ensures in let a = suc c.parts-before.result.1.name in let used = c.parts-before.result.1.used in
    let was = sym c.handle.view_is ∙ (sym c.lend.ensures.same_view ∙ p.same_view) in
    let whole : list_of v ≡ list_of c.parts-before.result.0.log = seen ∙ (c.requires.held.1 ∙ ap (λ w. w.seen) was) in
    let mine : count a (list_of v) ≡ used = ap (count a) whole ∙ p.mine in
    ap (λ k. count (suc k) (list_of c.publish-seen.result.0.log)) c.publish-seen.ensures.same.1 ∙ (ap (λ (l : List (Entry g.row.T.Denot)). count a l) c.publish-seen.ensures.seen ∙ (published_count a (list_of v) (entry a c.args.item) refl ∙ (ap suc c.publish-seen.ensures.mine ∙ sym c.publish-seen.ensures.same.2)))

pub returns : goal.returns
returns g c =
    let h = c.self.inside in let v = h.seen.log in let r = h.right in let inv = c.self.invariant in
    let n : h.at ≡ length (list_of v) = inv.2 ∙ sym (ap length (acquired_list r.answer v inv.1)) in
    let seen : list_of v ≡ c.args.self.seen = ap (λ w. w.seen) c.self.view_is in
    let len : h.at ≡ length c.args.self.seen = n ∙ ap length seen in
    let p = c.parts-before.ensures in let a = suc c.parts-before.result.1.name in let used = c.parts-before.result.1.used in
    let was = sym c.handle.view_is ∙ (sym c.lend.ensures.same_view ∙ p.same_view) in
    let whole : list_of v ≡ list_of c.parts-before.result.0.log = seen ∙ (c.requires.held.1 ∙ ap (λ w. w.seen) was) in
    let mine : count a (list_of v) ≡ used = ap (count a) whole ∙ p.mine in
    let log = c.publish-seen.result.0.log in let up = c.publish-seen.ensures in
    let now : count a (list_of log) ≡ suc used = ap (λ (l : List (Entry g.row.T.Denot)). count a l) up.seen ∙ (published_count a (list_of v) (entry a c.args.item) refl ∙ ap suc mine) in
    let more = push_indices a used (length (list_of v)) (list_of v) (list_of log) (entry a c.args.item) (list_of v, ([], append-nil (list_of v)), refl, up.seen) refl mine now in
    let vector = cc (up.same.0.0, up.same.0.1) ∙ (ap (λ w. w.vector) c.self.view_is ∙ (c.requires.held.0 ∙ ap (λ w. w.vector) was)) in
    record { pushed = rw (was, c.released.ensures, up.same.1, sym whole) ((vector, refl), (up.seen, more)) }
