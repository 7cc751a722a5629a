-- Histories that the rule allows: what a step adds, and their prefixes.
use Rattle.std.proofs.Common.{◌≡◌, ◌∙◌, ◌⊎◌, inl, inr, List, [], ◌∷◌, ◌++◌, append_assoc, refl, ap, sym, subst}
use mathlib.Core.List.{IsPrefix}
use Rattle.elsa_lock_free.specs.declared.event.Event.{Event}
use Rattle.elsa_lock_free.specs.declared.event.Event.TheVariants.{Acquired, Published, Extended, Cloned, Released, OfferOf}
use Rattle.elsa_lock_free.specs.Rights.{IsStep}
use Rattle.elsa_lock_free.specs.OneWord.{IsMade, begins, steps}

module _ {A : Type 0} where
  -- a prefix of an empty list is empty
  prefix_of_none : (xs : List A) → IsPrefix xs [] → xs ≡ []
  prefix_of_none [] p = refl
  prefix_of_none (x ∷ xs) p = absurd (cc (p.1))

  -- a prefix of a list with one item more is a prefix of the list, or all of it
  prefix_snoc : (xs ys : List A) (y : A) → IsPrefix xs (ys ++ y ∷ []) → IsPrefix xs ys ⊎ (xs ≡ ys ++ y ∷ [])
  prefix_snoc [] ys y p = inl (ys, refl)
  prefix_snoc (x ∷ []) [] y p = inr (cc (p.1))
  prefix_snoc (x ∷ z ∷ xs) [] y p = absurd (cc (p.1))
  prefix_snoc (x ∷ xs) (z ∷ ys) y p = elim (prefix_snoc xs ys y (p.0, cc (p.1))) [
    | inl q ↦ inl (q.0, cc (p.1, q.1))
    | inr whole ↦ inr (cc (p.1, whole))
  ]

  -- a prefix of a prefix
  pub both_prefixes : (xs ys zs : List A) → IsPrefix xs ys → IsPrefix ys zs → IsPrefix xs zs
  both_prefixes xs ys zs p q = (p.0 ++ q.0, sym (append_assoc xs p.0 q.0) ∙ (ap (λ (l : List A). l ++ q.0) p.1 ∙ q.1))

  -- of two prefixes of one list, one is a prefix of the other
  pub one_begins : (xs ys zs : List A) → IsPrefix xs zs → IsPrefix ys zs → IsPrefix xs ys ⊎ IsPrefix ys xs
  one_begins [] ys zs p q = inl (ys, refl)
  one_begins (x ∷ xs) [] zs p q = inr (x ∷ xs, refl)
  one_begins (x ∷ xs) (y ∷ ys) [] p q = absurd (cc (p.1))
  one_begins (x ∷ xs) (y ∷ ys) (z ∷ zs) p q = elim (one_begins xs ys zs (p.0, cc (p.1)) (q.0, cc (q.1))) [
    | inl r ↦ inl (r.0, cc (p.1, q.1, r.1))
    | inr r ↦ inr (r.0, cc (p.1, q.1, r.1))
  ]

module _ {T : Type 0} where
  -- a step adds its event, or nothing
  step_adds : (e : Event T) (xs ys r : List (Event T)) → IsStep e xs ys r → (ys ≡ xs) ⊎ (ys ≡ xs ++ e ∷ [])
  step_adds Acquired xs ys r h = inr h.1.0
  step_adds (Published x) xs ys r h = elim h.1 [ inl same ↦ inl same | inr p ↦ inr p.0 ]
  step_adds (Extended a cs) xs ys r h = elim h.1 [ inl same ↦ inl same | inr p ↦ inr p.0 ]
  step_adds (Cloned cs) xs ys r h = elim h.1 [ inl same ↦ inl same | inr p ↦ inr p.0 ]
  step_adds Released xs ys r h = elim h.1 [ inl same ↦ inl same | inr p ↦ inr p.0 ]
  step_adds (OfferOf a n) xs ys r h = inl h.1.0

  -- each prefix of a history that the rule allows is one
  pub prefix_is_made : (xs log : List (Event T)) → IsPrefix xs log → IsMade log → IsMade xs
  prefix_is_made xs _ p begins = subst (IsMade {T = T}) (sym (prefix_of_none xs p)) begins
  prefix_is_made xs log p (steps event before answer made step) = elim (step_adds event before log answer step) [
    | inl same ↦ prefix_is_made xs before (subst (IsPrefix xs) same p) made
    | inr more ↦ elim (prefix_snoc xs before event (subst (IsPrefix xs) more p)) [
      | inl q ↦ prefix_is_made xs before q made
      | inr whole ↦ subst (IsMade {T = T}) (more ∙ sym whole) (steps event before answer made step)
    ]
  ]
