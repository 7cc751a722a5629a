use Rattle.std.proofs.Common.{◌≡◌, ◌++◌, ◌∷◌, [], ◌*◌, ◌+◌, ◌<◌, ◌^◌, ℕ, List, suc, true, length, length-append, refl, ap, sym, ◌∙◌, arith}
use Rattle.elsa_lock_free.specs.declared.event.Event.{Event}
use Rattle.elsa_lock_free.specs.declared.event.Event.TheVariants.{Extended}
use Rattle.elsa_lock_free.specs.Distinct.{EachIsNew}
use Rattle.elsa_lock_free.specs.OneWord.{word_of}
use Rattle.elsa_lock_free.specs.SharedList.{written_by}
use Rattle.elsa_lock_free.specs.History.{added_by, writer_of, begins_hold, is_held, list_of, others, pushes_of, used_of}
use Rattle.elsa_lock_free.proofs.RuleLemmas.EachNew.{any_is_new}
use Rattle.elsa_lock_free.proofs.RuleLemmas.History.{written_by_length, held_snoc, list_snoc}
use Rattle.elsa_lock_free.proofs.RuleLemmas.Steps.{end_moves}
use Rattle.elsa_lock_free.proofs.RuleLemmas.HoldEnd.{exchange_of_many, extended_list, extended_word, held_word}
use Rattle.elsa_lock_free.proofs.atomic_list.extend.AtomicList+T+A+K.publish_all.Goals as goal

pub compare_exchange-requires : goal.compare_exchange-requires
compare_exchange-requires g c = let h = c.deref-2.ensures ∙ (ap (λ w. w.value) c.deref.ensures ∙ c.args.self.now.word_is) in let pen = c.no_pen-pen.ensures in
    let v = c.args.seen.log in let n = c.args.n in let xs : List g.row.T.Denot = c.requires.request.0 in let a : ℕ = suc (writer_of c.args.offer.about) in let x : Event g.row.T.Denot = Extended a xs in let many = c.requires.request.2 in
    let low : length (list_of (v ++ x ∷ [])) < 2 ^ 62 = let l = ap length (extended_list v (v ++ x ∷ []) a xs refl) in let s = length-append (list_of v) (written_by a xs) in let m = written_by_length a xs in let r = c.requires.length.0 in let t = c.requires.length.1 in omega (arith, l, s, m, r, t, many) in
    let will : 2 * n + 2 * c.args.pushed ≡ word_of (v ++ x ∷ []) = let w = extended_word v n a xs c.requires.length.0 in omega (arith, w, many) in
    let new : EachIsNew g.K.ItemRule.is_new (list_of v) → EachIsNew g.K.ItemRule.is_new (list_of v ++ written_by a xs) = λ _. any_is_new g.K.ItemRule.is_new c.requires.obeys_rule (list_of v ++ written_by a xs) in (
      ap (λ w. w.tracked) h,
      c.requires.same_vector.0.0 ∙ sym (ap (λ w. w.book) h),
      pen.0 ∙ (c.requires.same_vector.0.0 ∙ sym (ap (λ w. w.book) h)),
      c.requires.offer.0,
      rw (ap (λ w. w.key) h, pen.1, c.requires.request.1, c.requires.offer.1) (end_moves g.row.T.Denot g.K.ItemRule.is_new v x (2 * n + 1) (2 * n + 2 * c.args.pushed) refl refl tt low c.requires.same_vector.1 (held_word v n c.requires.length.0 c.requires.same_vector.1) will new),
    )

pub returns-clause-seen : goal.returns-clause-seen
returns-clause-seen g c =
    let v = c.args.seen.log in let n = c.args.n in let e = c.compare_exchange.ensures in let gain = c.into_gain.ensures in let exchanged = e.7 in let up = c.take_extended.ensures in
    let a = writer_of c.args.offer.about in let k = used_of c.args.offer.about in let about = gain.1 ∙ (e.4 ∙ c.requires.about) in
    let all = exchange_of_many v exchanged.0 c.into_gain.result.answer c.compare_exchange.new.seen.log c.args.offer.ask c.compare_exchange.result (2 * n + 1) a k c.into_gain.result.about
    exchanged.1 exchanged.2 (held_word v n c.requires.length.0 c.requires.same_vector.1) exchanged.4 about (cc (exchanged.3, gain.2)) up.2 up.3 in
    ap list_of all.0 ∙ list_snoc v c.args.offer.ask

pub returns-clause-free : goal.returns-clause-free
returns-clause-free g c =
    let v = c.args.seen.log in let n = c.args.n in let e = c.compare_exchange.ensures in let gain = c.into_gain.ensures in let exchanged = e.7 in let up = c.take_extended.ensures in
    let a = writer_of c.args.offer.about in let k = used_of c.args.offer.about in let about = gain.1 ∙ (e.4 ∙ c.requires.about) in
    let all = exchange_of_many v exchanged.0 c.into_gain.result.answer c.compare_exchange.new.seen.log c.args.offer.ask c.compare_exchange.result (2 * n + 1) a k c.into_gain.result.about
    exchanged.1 exchanged.2 (held_word v n c.requires.length.0 c.requires.same_vector.1) exchanged.4 about (cc (exchanged.3, gain.2)) up.2 up.3 in
    ap is_held all.0 ∙ (held_snoc true v c.args.offer.ask ∙ ap begins_hold c.requires.request.1)

pub returns-clause-same : goal.returns-clause-same
returns-clause-same g c =
    let e = c.compare_exchange.ensures in let up = c.take_extended.ensures in let about = c.into_gain.ensures.1 ∙ e.4 in
    let many = ap (λ (l : List (Event g.row.T.Denot)). pushes_of (others l)) c.requires.about ∙ (ap added_by c.requires.request.1 ∙ sym c.requires.request.2) in
    ((e.0, e.1), up.0 ∙ ap writer_of about, up.1 ∙ (ap (λ (l : List (Event g.row.T.Denot)). used_of l + pushes_of (others l)) about ∙ ap (λ (m : ℕ). used_of c.args.offer.about + m) many))

pub returns-clause-mine : goal.returns-clause-mine
returns-clause-mine g c =
    let v = c.args.seen.log in let n = c.args.n in let e = c.compare_exchange.ensures in let gain = c.into_gain.ensures in let exchanged = e.7 in let up = c.take_extended.ensures in
    let a = writer_of c.args.offer.about in let k = used_of c.args.offer.about in let about = gain.1 ∙ (e.4 ∙ c.requires.about) in
    let all = exchange_of_many v exchanged.0 c.into_gain.result.answer c.compare_exchange.new.seen.log c.args.offer.ask c.compare_exchange.result (2 * n + 1) a k c.into_gain.result.about
    exchanged.1 exchanged.2 (held_word v n c.requires.length.0 c.requires.same_vector.1) exchanged.4 about (cc (exchanged.3, gain.2)) up.2 up.3 in
    let y = all.1 in let z = c.requires.mine in omega (arith, y, z)
