use lib.Seq.{drop-cons}
use Rattle.std.proofs.Common.{true, ◌≡◌, ◌++◌, ◌∷◌, [], ◌*◌, ◌+◌, ◌<◌, ◌^◌, ℕ, suc, length, length-append, slice_index_or, drop as drops, refl, ap, sym, ◌∙◌, arith, subst}
use Rattle.elsa_slots.specs.Geometry.{IsAt}
use Rattle.elsa_lock_free.specs.declared.event.Entry.{Entry}
use Rattle.elsa_lock_free.specs.declared.event.Event.TheVariants.{Published}
use Rattle.elsa_lock_free.specs.Distinct.{EachIsNew}
use Rattle.elsa_lock_free.specs.SharedList.{entry}
use Rattle.elsa_lock_free.specs.History.{is_held, list_of}
use Rattle.elsa_lock_free.proofs.RuleLemmas.EachNew.{snoc_is_new}
use Rattle.elsa_lock_free.proofs.RuleLemmas.History.{held_snoc}
use Rattle.elsa_lock_free.proofs.RuleLemmas.Steps.{end_moves}
use Rattle.elsa_lock_free.proofs.RuleLemmas.HoldEnd.{exchange_was_at_known_history, held_word, published_list, published_word}
use Rattle.elsa_lock_free.proofs.atomic_list.AtomicList.publish.Goals as goal

pub offer_publish-offer-requires : goal.offer_publish-offer-requires
offer_publish-offer-requires g c =
    let ahead = c.requires.ahead.0 in let slot_names = c.args.ready.opened.value.0 in let j = c.args.ready.slot in
    let less : j < length slot_names = let a = ahead.index.within in let l = ahead.whole in omega (arith, a, l) in
    let all : c.take-right.result.of ∷ c.take-right.new.self.of ≡ slice_index_or slot_names j 0 ∷ drops (suc j) slot_names = sym c.take-right.ensures ∙ (ahead.left ∙ drop-cons slot_names j 0 less) in (
      c.requires.held.0,
      c.requires.held.1,
      record {
        index = subst (λ (k : ℕ). IsAt k c.args.ready.buffer c.args.ready.slot) c.requires.length.0 ahead.index;
        evidence = ahead.evidence;
        whole = ahead.whole;
        left = cc (c.write-written.ensures.0, all, drop-cons slot_names j 0 less);
        rights = ahead.rights;
      },
      subst (λ (y : g.row.T.Denot). g.X.Beside.fits c.args.ready.opened.value.1 y) (sym c.write-written.ensures.1) c.requires.fits,
    )

pub compare_exchange-requires : goal.compare_exchange-requires
compare_exchange-requires g c = let h = c.deref-2.ensures ∙ (ap (λ w. w.value) c.deref.ensures ∙ c.args.self.now.word_is) in let offer = c.offer_publish-offer.ensures in let pen = c.no_pen-pen.ensures in
    let v = c.args.ready.seen.log in let n = c.args.ready.at in let x : Entry g.row.T.Denot = entry (suc c.args.ready.writer.name) c.write-written.result.value in
    let low : length (list_of (v ++ Published x ∷ [])) < 2 ^ 62 = let l = ap length (published_list v (v ++ Published x ∷ []) x refl) in let a = length-append (list_of v) (x ∷ []) in let r = c.requires.length.0 in let s = c.requires.length.1 in omega (arith, l, a, r, s) in
    let new : EachIsNew g.K.ItemRule.is_new (list_of v) → EachIsNew g.K.ItemRule.is_new (list_of v ++ x ∷ []) = λ all.
    snoc_is_new g.K.ItemRule.is_new (list_of v) x all
    (subst (λ (y : g.row.T.Denot). g.K.ItemRule.is_new (list_of v) (entry (suc c.args.ready.writer.name) y)) (sym c.write-written.ensures.1) c.requires.obeys_rule) in (
      ap (λ w. w.tracked) h,
      c.requires.same_vector.0 ∙ sym (ap (λ w. w.book) h),
      pen.0 ∙ (c.requires.same_vector.0 ∙ sym (ap (λ w. w.book) h)),
      offer.0,
      rw (ap (λ w. w.key) h, pen.1, offer.1, offer.3) (end_moves g.row.T.Denot g.K.ItemRule.is_new v (Published x) (2 * n + 1) (2 * n + 2) refl refl tt low c.requires.held.2 (held_word v n c.requires.length.0 c.requires.held.2) (published_word v n x c.requires.length.0) new),
    )

pub returns-clause-seen : goal.returns-clause-seen
returns-clause-seen g c =
    let v = c.args.ready.seen.log in let n = c.args.ready.at in let e = c.compare_exchange.ensures in let gain = c.into_gain.ensures in let offer = c.offer_publish-offer.ensures in let exchanged = e.7 in let up = c.take_published.ensures in
    let x : Entry g.row.T.Denot = entry (suc c.args.ready.writer.name) c.write-written.result.value in
    let about = gain.1 ∙ (e.4 ∙ offer.2) in
    let all = exchange_was_at_known_history v exchanged.0 c.into_gain.result.answer c.compare_exchange.new.seen.log c.offer_publish-offer.result.ask c.compare_exchange.result (2 * n + 1) c.args.ready.writer.name c.args.ready.writer.used c.into_gain.result.about
    exchanged.1 exchanged.2 (held_word v n c.requires.length.0 c.requires.held.2) exchanged.4 about (cc (exchanged.3, gain.2)) up.2 up.3 in
    published_list v c.compare_exchange.new.seen.log x (cc (all.0, offer.1)) ∙ ap (λ i. list_of v ++ entry (suc c.args.ready.writer.name) i ∷ []) c.write-written.ensures.1

pub returns-clause-mine : goal.returns-clause-mine
returns-clause-mine g c =
    let v = c.args.ready.seen.log in let n = c.args.ready.at in let e = c.compare_exchange.ensures in let gain = c.into_gain.ensures in let offer = c.offer_publish-offer.ensures in let exchanged = e.7 in let up = c.take_published.ensures in
    let x : Entry g.row.T.Denot = entry (suc c.args.ready.writer.name) c.write-written.result.value in
    let about = gain.1 ∙ (e.4 ∙ offer.2) in
    let all = exchange_was_at_known_history v exchanged.0 c.into_gain.result.answer c.compare_exchange.new.seen.log c.offer_publish-offer.result.ask c.compare_exchange.result (2 * n + 1) c.args.ready.writer.name c.args.ready.writer.used c.into_gain.result.about
    exchanged.1 exchanged.2 (held_word v n c.requires.length.0 c.requires.held.2) exchanged.4 about (cc (exchanged.3, gain.2)) up.2 up.3 in
    let y = all.1 in let z = c.requires.mine in omega (arith, y, z)

pub returns-clause-free : goal.returns-clause-free
returns-clause-free g c =
    let v = c.args.ready.seen.log in let n = c.args.ready.at in let e = c.compare_exchange.ensures in let gain = c.into_gain.ensures in let offer = c.offer_publish-offer.ensures in let exchanged = e.7 in let up = c.take_published.ensures in
    let x : Entry g.row.T.Denot = entry (suc c.args.ready.writer.name) c.write-written.result.value in
    let about = gain.1 ∙ (e.4 ∙ offer.2) in
    let all = exchange_was_at_known_history v exchanged.0 c.into_gain.result.answer c.compare_exchange.new.seen.log c.offer_publish-offer.result.ask c.compare_exchange.result (2 * n + 1) c.args.ready.writer.name c.args.ready.writer.used c.into_gain.result.about
    exchanged.1 exchanged.2 (held_word v n c.requires.length.0 c.requires.held.2) exchanged.4 about (cc (exchanged.3, gain.2)) up.2 up.3 in
    ap is_held (all.0 ∙ ap (λ e. v ++ e ∷ []) offer.1) ∙ held_snoc true v (Published x)
