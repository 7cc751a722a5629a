use Rattle.std.proofs.Common.{◌≡◌, ◌++◌, ◌∷◌, [], ◌*◌, ◌<◌, ◌^◌, List, length, length-append, refl, ap, sym, ◌∙◌, arith, subst}
use mathlib.Core.List.{IsPrefix}
use Rattle.elsa_lock_free.specs.declared.event.Event.TheVariants.{Cloned}
use Rattle.elsa_lock_free.specs.History.{list_of}
use Rattle.elsa_lock_free.proofs.RuleLemmas.Steps.{end_moves}
use Rattle.elsa_lock_free.proofs.RuleLemmas.HoldEnd.{exchange_was_at_known_history}
use Rattle.std.proofs.lemmas.List.{append-nil}
use Rattle.elsa_lock_free.specs.declared.event.Event.{Event}
use Rattle.elsa_lock_free.specs.SharedList.{copied}
use Rattle.elsa_lock_free.specs.History.{entries}
use Rattle.elsa_lock_free.specs.OneWord.{word_of}
use Rattle.elsa_lock_free.proofs.RuleLemmas.History.{copied_length}
use Rattle.elsa_lock_free.proofs.RuleLemmas.Steps.{word_snoc}
use Rattle.elsa_lock_free.proofs.atomic_list.AtomicList.publish_by.Goals as goal

pub compare_exchange-requires : goal.compare_exchange-requires
compare_exchange-requires g c = let h = c.deref-2.ensures ∙ (ap (λ w. w.value) c.deref.ensures ∙ c.args.self.now.word_is) in let pen = c.no_pen-pen.ensures in let n = c.args.n in
    let none : List (Event g.row.T.Denot) = [] in let xs : List g.row.T.Denot = c.requires.request.0 in let e : Event g.row.T.Denot = Cloned xs in let len = copied_length xs in let app = length-append (copied xs) [] in let many = c.requires.request.2 in let few = c.requires.request.3 in
    let low : length (list_of (none ++ e ∷ [])) < 2 ^ 62 = omega (arith, len, app, many, few) in
    let will : 2 * n ≡ word_of (none ++ e ∷ []) = let s = word_snoc g.row.T.Denot none e refl in omega (arith, s, len, many) in (
      ap (λ w. w.tracked) h,
      c.requires.same_vector.0.0 ∙ sym (ap (λ w. w.book) h),
      pen.0 ∙ (c.requires.same_vector.0.0 ∙ sym (ap (λ w. w.book) h)),
      c.requires.offer.0,
      rw (ap (λ w. w.key) h, pen.1, c.requires.request.1, c.requires.offer.1, c.requires.same_vector.1) (end_moves g.row.T.Denot g.K.ItemRule.is_new none e 1 (2 * n) refl refl refl low refl refl will (λ _. c.requires.request.4)),
    )

pub returns-clause-history : goal.returns-clause-history
returns-clause-history g c =
    let none : List (Event g.row.T.Denot) = [] in let e = c.compare_exchange.ensures in let gain = c.into_gain.ensures in let exchanged = e.7 in let up = c.take_released.ensures in
    let about = gain.1 ∙ (e.4 ∙ c.requires.about.2) in
    let pre : IsPrefix none exchanged.0 = subst (λ (l : List (Event g.row.T.Denot)). IsPrefix l exchanged.0) c.requires.same_vector.1 exchanged.1 in
    let all = exchange_was_at_known_history none exchanged.0 c.into_gain.result.answer c.compare_exchange.new.seen.log c.args.offer.ask c.compare_exchange.result 1 c.requires.about.0 c.requires.about.1 c.into_gain.result.about
    pre exchanged.2 refl exchanged.4 about (cc (exchanged.3, gain.2)) up.2 up.3 in
    all.0

pub returns-clause-items : goal.returns-clause-items
returns-clause-items g c =
    let none : List (Event g.row.T.Denot) = [] in let e = c.compare_exchange.ensures in let gain = c.into_gain.ensures in let exchanged = e.7 in let up = c.take_released.ensures in
    let about = gain.1 ∙ (e.4 ∙ c.requires.about.2) in
    let pre : IsPrefix none exchanged.0 = subst (λ (l : List (Event g.row.T.Denot)). IsPrefix l exchanged.0) c.requires.same_vector.1 exchanged.1 in
    let all = exchange_was_at_known_history none exchanged.0 c.into_gain.result.answer c.compare_exchange.new.seen.log c.args.offer.ask c.compare_exchange.result 1 c.requires.about.0 c.requires.about.1 c.into_gain.result.about
    pre exchanged.2 refl exchanged.4 about (cc (exchanged.3, gain.2)) up.2 up.3 in
    ap list_of all.0 ∙ append-nil (entries c.args.offer.ask)
