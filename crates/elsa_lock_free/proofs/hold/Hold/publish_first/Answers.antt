use Rattle.std.proofs.Common.{◌≡◌, ◌∷◌, [], ◌<◌, ℕ, List, true, suc, slice_index_or, drop as drops, length, length-append, refl, ap, sym, ◌∙◌, arith, subst}
use Rattle.std.proofs.lemmas.List.{append-nil}
use lib.Seq.{drop-cons}
use Rattle.elsa_lock_free.specs.declared.event.Entry.{Entry}
use Rattle.elsa_lock_free.specs.declared.event.Event.TheVariants.{Acquired}
use Rattle.elsa_lock_free.specs.SharedList.{BeginsABuffer, count, entry}
use Rattle.elsa_lock_free.specs.History.{list_of, added, is_held}
use Rattle.elsa_lock_free.specs.Rights.{head, buffer_slots_of}
use Rattle.elsa_lock_free.proofs.RuleLemmas.WriterIndices.{push_indices}
use Rattle.elsa_lock_free.proofs.RuleLemmas.History.{held_snoc}
use Rattle.elsa_lock_free.proofs.RuleLemmas.Hold.{begins_closed}
use Rattle.elsa_lock_free.proofs.RuleLemmas.HoldEnd.{acquired_list, published_count}
use Rattle.elsa_lock_free.proofs.hold.Hold.publish_first.Goals as goal

pub take_acquired_closed-held-requires : goal.take_acquired_closed-held-requires
take_acquired_closed-held-requires g c =
    let h = c.self.inside in let v = h.seen.log in let r = h.right in let inv = c.self.invariant in
    let n : h.at ≡ length (list_of v) = inv.2 ∙ sym (ap length (acquired_list r.answer v inv.1)) in
    let seen : list_of v ≡ c.args.self.seen = ap (λ w. w.seen) c.self.view_is in
    let len : h.at ≡ length c.args.self.seen = n ∙ ap length seen in
    let closed = begins_closed h.at h.buffer h.slot inv.4 (subst BeginsABuffer (sym len) c.requires.begins) in
    let e = closed.1 in let k = inv.2 in omega (arith, e, k)

pub released-requires-clause-length : goal.released-requires-clause-length
released-requires-clause-length g c =
    let h = c.self.inside in let v = h.seen.log in let r = h.right in let inv = c.self.invariant in
    let n : h.at ≡ length (list_of v) = inv.2 ∙ sym (ap length (acquired_list r.answer v inv.1)) in
    let seen : list_of v ≡ c.args.self.seen = ap (λ w. w.seen) c.self.view_is in
    let len : h.at ≡ length c.args.self.seen = n ∙ ap length seen in
    (n ∙ sym (ap length c.release-seen.ensures.seen), (let h = inv.3 in omega (arith, h)))

pub publish-seen-requires-clause-held : goal.publish-seen-requires-clause-held
publish-seen-requires-clause-held g c =
    let h = c.self.inside in let v = h.seen.log in let r = h.right in let inv = c.self.invariant in
    let n : h.at ≡ length (list_of v) = inv.2 ∙ sym (ap length (acquired_list r.answer v inv.1)) in
    let seen : list_of v ≡ c.args.self.seen = ap (λ w. w.seen) c.self.view_is in
    let len : h.at ≡ length c.args.self.seen = n ∙ ap length seen in
    (c.take_acquired_closed-held.ensures.0 ∙ ap head inv.0, c.take_acquired_closed-held.ensures.1 ∙ ap added (sym inv.1), ap is_held inv.1 ∙ held_snoc true r.answer Acquired)

pub publish-seen-requires-clause-ahead : goal.publish-seen-requires-clause-ahead
publish-seen-requires-clause-ahead g c =
    let h = c.self.inside in let v = h.seen.log in let r = h.right in let inv = c.self.invariant in
    let n : h.at ≡ length (list_of v) = inv.2 ∙ sym (ap length (acquired_list r.answer v inv.1)) in
    let seen : list_of v ≡ c.args.self.seen = ap (λ w. w.seen) c.self.view_is in
    let len : h.at ≡ length c.args.self.seen = n ∙ ap length seen in
    let closed = begins_closed h.at h.buffer h.slot inv.4 (subst BeginsABuffer (sym len) c.requires.begins) in
    let b = h.buffer in let names = r.names in
    let list = h.list.now in
    let same : names ≡ list.first.names = inv.0 ∙ inv.7 in
    let less : b < length (buffer_slots_of names) = let l = ap (λ z. length (buffer_slots_of z)) same in let t = ap length list.buffer_slots_are in let k = list.all in let m = inv.5 in omega (arith, l, t, k, m) in
    let all : c.take-first.result.of ∷ c.take-first.new.self.of ≡ slice_index_or (buffer_slots_of names) b 0 ∷ drops (suc b) (buffer_slots_of names) = sym c.take-first.ensures ∙ (c.take_acquired_closed-held.ensures.2 ∙ drop-cons (buffer_slots_of names) b 0 less) in
    let rest : c.take-first.new.self.of ≡ drops (suc b) (buffer_slots_of names) = cc all in
    let items = c.fill-opened.result.value.0 in (
      record {
        index = inv.4;
        evidence = c.fill-opened.ensures.0 ∙ sym (ap (λ z. slice_index_or (buffer_slots_of z) b 0) (sym inv.0 ∙ same) ∙ ap (λ z. slice_index_or z b 0) list.buffer_slots_are);
        whole = ap (λ r. length r.0) c.fill-opened.ensures.1 ∙ (c.in-Ok.ensures.slots.0 ∙ c.buffer_size.ensures);
        left = c.in-Ok.ensures.slots.1 ∙ (sym (ap (λ r. r.0) c.fill-opened.ensures.1) ∙ subst (λ (k : ℕ). items ≡ drops k items) (sym closed.0) refl);
        rights = rest ∙ ap (λ z. drops (suc b) (buffer_slots_of z)) inv.0;
      },
      inv.5,
    )

pub publish-seen-requires-clause-length : goal.publish-seen-requires-clause-length
publish-seen-requires-clause-length g c =
    let h = c.self.inside in let v = h.seen.log in let r = h.right in let inv = c.self.invariant in
    let n : h.at ≡ length (list_of v) = inv.2 ∙ sym (ap length (acquired_list r.answer v inv.1)) in
    let seen : list_of v ≡ c.args.self.seen = ap (λ w. w.seen) c.self.view_is in
    let len : h.at ≡ length c.args.self.seen = n ∙ ap length seen in
    (n, inv.3)

pub released-requires-2-clause-length : goal.released-requires-2-clause-length
released-requires-2-clause-length g c =
    let h = c.self.inside in let v = h.seen.log in let r = h.right in let inv = c.self.invariant in
    let n : h.at ≡ length (list_of v) = inv.2 ∙ sym (ap length (acquired_list r.answer v inv.1)) in
    let seen : list_of v ≡ c.args.self.seen = ap (λ w. w.seen) c.self.view_is in
    let len : h.at ≡ length c.args.self.seen = n ∙ ap length seen in let a = suc c.parts-before.result.1.name in
    let l = ap length c.publish-seen.ensures.seen in let m = length-append (list_of v) (entry a c.args.item ∷ []) in (omega (arith, n, l, m), inv.3)

pub publish-seen-requires-clause-mine : goal.publish-seen-requires-clause-mine
publish-seen-requires-clause-mine g c =
    let h = c.self.inside in let v = h.seen.log in let r = h.right in let inv = c.self.invariant in
    let n : h.at ≡ length (list_of v) = inv.2 ∙ sym (ap length (acquired_list r.answer v inv.1)) in
    let seen : list_of v ≡ c.args.self.seen = ap (λ w. w.seen) c.self.view_is in
    let len : h.at ≡ length c.args.self.seen = n ∙ ap length seen in
    let p = c.parts-before.ensures in let a = suc c.parts-before.result.1.name in let used = c.parts-before.result.1.used in
    let was = sym c.handle.view_is ∙ (sym c.lend.ensures.same_view ∙ p.same_view) in
    let whole : list_of v ≡ list_of c.parts-before.result.0.log = seen ∙ (c.requires.held.1 ∙ ap (λ w. w.seen) was) in
    let mine : count a (list_of v) ≡ used = ap (count a) whole ∙ p.mine in
    omega (arith, mine)

pub released-requires-2-clause-mine : goal.released-requires-2-clause-mine
released-requires-2-clause-mine g c =
    let h = c.self.inside in let v = h.seen.log in let r = h.right in let inv = c.self.invariant in
    let n : h.at ≡ length (list_of v) = inv.2 ∙ sym (ap length (acquired_list r.answer v inv.1)) in
    let seen : list_of v ≡ c.args.self.seen = ap (λ w. w.seen) c.self.view_is in
    let len : h.at ≡ length c.args.self.seen = n ∙ ap length seen in
    let p = c.parts-before.ensures in let a = suc c.parts-before.result.1.name in let used = c.parts-before.result.1.used in
    let was = sym c.handle.view_is ∙ (sym c.lend.ensures.same_view ∙ p.same_view) in
    let whole : list_of v ≡ list_of c.parts-before.result.0.log = seen ∙ (c.requires.held.1 ∙ ap (λ w. w.seen) was) in
    let mine : count a (list_of v) ≡ used = ap (count a) whole ∙ p.mine in
    ap (λ k. count (suc k) (list_of c.publish-seen.result.0.log)) c.publish-seen.ensures.same.1 ∙ (ap (λ (l : List (Entry g.row.T.Denot)). count a l) c.publish-seen.ensures.seen ∙ (published_count a (list_of v) (entry a c.args.item) refl ∙ (ap suc c.publish-seen.ensures.mine ∙ sym c.publish-seen.ensures.same.2)))

pub returns-clause-pushed : goal.returns-clause-pushed
returns-clause-pushed g c =
    let h = c.self.inside in let v = h.seen.log in let r = h.right in let inv = c.self.invariant in
    let n : h.at ≡ length (list_of v) = inv.2 ∙ sym (ap length (acquired_list r.answer v inv.1)) in
    let seen : list_of v ≡ c.args.self.seen = ap (λ w. w.seen) c.self.view_is in
    let len : h.at ≡ length c.args.self.seen = n ∙ ap length seen in
    let p = c.parts-before.ensures in let a = suc c.parts-before.result.1.name in let used = c.parts-before.result.1.used in
    let was = sym c.handle.view_is ∙ (sym c.lend.ensures.same_view ∙ p.same_view) in
    let whole : list_of v ≡ list_of c.parts-before.result.0.log = seen ∙ (c.requires.held.1 ∙ ap (λ w. w.seen) was) in
    let mine : count a (list_of v) ≡ used = ap (count a) whole ∙ p.mine in
    let log = c.publish-seen.result.0.log in let up = c.publish-seen.ensures in
    let now : count a (list_of log) ≡ suc used = ap (λ (l : List (Entry g.row.T.Denot)). count a l) up.seen ∙ (published_count a (list_of v) (entry a c.args.item) refl ∙ ap suc mine) in
    let more = push_indices a used (length (list_of v)) (list_of v) (list_of log) (entry a c.args.item) (list_of v, ([], append-nil (list_of v)), refl, up.seen) refl mine now in
    let vector = cc (up.same.0.0, up.same.0.1) ∙ (ap (λ w. w.vector) c.self.view_is ∙ (c.requires.held.0 ∙ ap (λ w. w.vector) was)) in
    rw (was, c.released-2.ensures, up.same.1, sym whole) ((vector, refl), (up.seen, more))
