use Rattle.std.proofs.Common.{true, ◌≡◌, ◌++◌, ◌∷◌, [], ◌*◌, ◌+◌, ◌<◌, ◌^◌, length, refl, ap, sym, ◌∙◌, subst, arith}
use Rattle.std.proofs.lemmas.List.{append-nil}
use Rattle.elsa_lock_free.specs.Distinct.{EachIsNew}
use Rattle.elsa_lock_free.specs.declared.event.Event.TheVariants.{Acquired, Released}
use Rattle.elsa_lock_free.specs.History.{is_held, list_of}
use Rattle.elsa_lock_free.proofs.RuleLemmas.History.{held_snoc}
use Rattle.elsa_lock_free.proofs.RuleLemmas.Steps.{end_moves}
use Rattle.elsa_lock_free.proofs.RuleLemmas.HoldEnd.{acquired_list, exchange_was_at_known_history, released_list, released_word, held_word}
use Rattle.elsa_lock_free.proofs.atomic_list.AtomicList.release.Goals as goal

pub compare_exchange-requires : goal.compare_exchange-requires
compare_exchange-requires g c = let h = c.deref-2.ensures ∙ (ap (λ w. w.value) c.deref.ensures ∙ c.args.self.now.word_is) in let offer = c.offer_release-offer.ensures in let pen = c.no_pen-pen.ensures in
    let v = c.args.seen.log in let n = c.args.n in let held : is_held v ≡ true = ap is_held c.requires.right.1 ∙ held_snoc true c.args.right.answer Acquired in let len : n ≡ length (list_of v) = c.requires.length.0 ∙ sym (ap length (acquired_list c.args.right.answer v c.requires.right.1)) in
    let low : length (list_of (v ++ Released ∷ [])) < 2 ^ 62 = let l = ap length (released_list v (v ++ Released ∷ []) refl) in let r = len in let s = c.requires.length.1 in omega (arith, l, r, s) in (
      ap (λ w. w.tracked) h,
      c.requires.same_vector.0 ∙ sym (ap (λ w. w.book) h),
      pen.0 ∙ (c.requires.same_vector.0 ∙ sym (ap (λ w. w.book) h)),
      offer.0,
      rw (ap (λ w. w.key) h, pen.1, offer.1, offer.3) (end_moves g.row.T.Denot g.K.ItemRule.is_new v Released (2 * n + 1) (2 * n) refl refl tt low held (held_word v n len held) (released_word v n len) (λ all. subst (EachIsNew g.K.ItemRule.is_new) (sym (append-nil (list_of v))) all)),
    )

pub returns-clause-seen : goal.returns-clause-seen
returns-clause-seen g c =
    let v = c.args.seen.log in let n = c.args.n in let held : is_held v ≡ true = ap is_held c.requires.right.1 ∙ held_snoc true c.args.right.answer Acquired in let len : n ≡ length (list_of v) = c.requires.length.0 ∙ sym (ap length (acquired_list c.args.right.answer v c.requires.right.1)) in let e = c.compare_exchange.ensures in let gain = c.into_gain.ensures in let offer = c.offer_release-offer.ensures in let exchanged = e.7 in let up = c.take_released.ensures in
    let about = gain.1 ∙ (e.4 ∙ offer.2) in
    let all = exchange_was_at_known_history v exchanged.0 c.into_gain.result.answer c.compare_exchange.new.seen.log c.offer_release-offer.result.ask c.compare_exchange.result (2 * n + 1) c.args.writer.name c.args.writer.used c.into_gain.result.about
    exchanged.1 exchanged.2 (held_word v n len held) exchanged.4 about (cc (exchanged.3, gain.2)) up.2 up.3 in
    released_list v c.compare_exchange.new.seen.log (cc (all.0, offer.1))

pub returns-clause-mine : goal.returns-clause-mine
returns-clause-mine g c =
    let v = c.args.seen.log in let n = c.args.n in let held : is_held v ≡ true = ap is_held c.requires.right.1 ∙ held_snoc true c.args.right.answer Acquired in let len : n ≡ length (list_of v) = c.requires.length.0 ∙ sym (ap length (acquired_list c.args.right.answer v c.requires.right.1)) in let e = c.compare_exchange.ensures in let gain = c.into_gain.ensures in let offer = c.offer_release-offer.ensures in let exchanged = e.7 in let up = c.take_released.ensures in
    let about = gain.1 ∙ (e.4 ∙ offer.2) in
    let all = exchange_was_at_known_history v exchanged.0 c.into_gain.result.answer c.compare_exchange.new.seen.log c.offer_release-offer.result.ask c.compare_exchange.result (2 * n + 1) c.args.writer.name c.args.writer.used c.into_gain.result.about
    exchanged.1 exchanged.2 (held_word v n len held) exchanged.4 about (cc (exchanged.3, gain.2)) up.2 up.3 in
    let x = all.1 in let y = c.requires.mine in omega (arith, x, y)

pub returns-clause-free : goal.returns-clause-free
returns-clause-free g c =
    let v = c.args.seen.log in let n = c.args.n in let held : is_held v ≡ true = ap is_held c.requires.right.1 ∙ held_snoc true c.args.right.answer Acquired in let len : n ≡ length (list_of v) = c.requires.length.0 ∙ sym (ap length (acquired_list c.args.right.answer v c.requires.right.1)) in let e = c.compare_exchange.ensures in let gain = c.into_gain.ensures in let offer = c.offer_release-offer.ensures in let exchanged = e.7 in let up = c.take_released.ensures in
    let about = gain.1 ∙ (e.4 ∙ offer.2) in
    let all = exchange_was_at_known_history v exchanged.0 c.into_gain.result.answer c.compare_exchange.new.seen.log c.offer_release-offer.result.ask c.compare_exchange.result (2 * n + 1) c.args.writer.name c.args.writer.used c.into_gain.result.about
    exchanged.1 exchanged.2 (held_word v n len held) exchanged.4 about (cc (exchanged.3, gain.2)) up.2 up.3 in
    ap is_held (all.0 ∙ ap (λ e. v ++ e ∷ []) offer.1) ∙ held_snoc true v Released
