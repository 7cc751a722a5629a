use Rattle.std.proofs.Common.{ap, sym, ◌∙◌}
use Rattle.elsa_lock_free.proofs.RuleLemmas.Steps.{acquire_moves}
use Rattle.elsa_lock_free.proofs.atomic_list.AtomicList.try_acquire.Goals as goal

pub compare_exchange-requires : goal.compare_exchange-requires
compare_exchange-requires g c = let h = c.deref-2.ensures ∙ (ap (λ w. w.value) c.deref.ensures ∙ c.args.self.now.word_is) in let offer = c.offer_acquire-offer.ensures in let pen = c.no_pen-pen.ensures in (
  ap (λ w. w.tracked) h,
  c.requires.book ∙ sym (ap (λ w. w.book) h),
  pen.0 ∙ (c.requires.book ∙ sym (ap (λ w. w.book) h)),
  offer.0,
  rw (ap (λ w. w.key) h, pen.1, offer.1, offer.3) (acquire_moves g.row.T.Denot g.K.ItemRule.is_new c.args.seen.now.log c.args.found.now c.requires.unlocked),
)
