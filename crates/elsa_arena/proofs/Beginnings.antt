-- Two pieces of evidence of one list: the shorter begins the longer. Assumes `Logic`.
use Rattle.std.proofs.Common.{◌≡◌, ℕ, suc, ◌≤◌, List, [], ◌∷◌, ◌++◌, length, slice_index_or, refl, ap, sym, ◌∙◌, arith}
use mathlib.Core.List.{IsPrefix}
use seplogic.Ra.Ura.{Ura}
use base.Logic.{ent, sep, emp}
use base.Fml.{Fml}
use contract.Monad.{fact, fact_i}
use types.Logic.{Logic, sem}
use types.Kit.{‵, raw, ◌⊛◌, ◌$◌, ◌∵◌, !, qed, move, drop, split, fsplit3, fpick, use0, use2, rewrite, done}
use denote.Steps.{heard}
use denote.RattleType.{RattleType}
use Rattle.elsa_slots.proofs.GeometryLemmas.OneToOne.{one_slot}
use Rattle.elsa_slots.specs.Slot.{written}
use Rattle.elsa_slots.specs.WrittenPrefix.{index_written, prefix_written}
use Rattle.elsa_slots.proofs.SlotLemmas.Tokens.{written_agree}

module _ {M : Type 1} {𝓤 : Ura M} (𝓛 : Logic 𝓤) (T B : RattleType) (slot_names : B.Denot → List ℕ) (fits : B.Denot → T.Denot → Type 0) (buffer_slots : List ℕ) where
  abbrev One : ℕ → T.Denot → Fml
  One = index_written T B slot_names fits buffer_slots

  abbrev All : ℕ → List T.Denot → Fml
  All = prefix_written T B slot_names fits buffer_slots

  -- an index has one item
  index_agree : (i : ℕ) (x y : T.Denot) → ent 𝓤 (sep 𝓤 (sem 𝓛 (One i x)) (sem 𝓛 (One i y))) (fact 𝓤 (x ≡ y))
  index_agree i x y = qed 𝓛 (‵ (One i x) ∷ ‵ (One i y) ∷ []) ∵ fpick ! (λ w. fsplit3 ! $ fpick ! (λ so. drop ! $ move ! (2 ∷ []) $ fpick ! (λ v. fsplit3 ! $ fpick ! (λ si. drop ! $
      let same = one_slot i v.buffer v.slot w.buffer w.slot si.0 so.0 in
      move ! (0 ∷ 2 ∷ []) $ rewrite ! 0 (λ (z : ℕ). ‵ (written B (slice_index_or buffer_slots z 0) v.opened)) same.0 refl $
      use2 𝓛 (raw (fact 𝓤 (v.opened ≡ w.opened))) (written_agree 𝓛 B (slice_index_or buffer_slots w.buffer 0) v.opened w.opened) $ heard ! (v.opened ≡ w.opened) (λ opened.
      rewrite ! 0 (λ (z : ℕ). ‵ (written T (slice_index_or (slot_names v.opened) z 0) y)) same.1 refl $
      rewrite ! 0 (λ (r : B.Denot). ‵ (written T (slice_index_or (slot_names r) w.slot 0) y)) opened refl $
      use2 𝓛 (raw (fact 𝓤 (y ≡ x))) (written_agree 𝓛 T (slice_index_or (slot_names w.opened) w.slot 0) y x) $ heard ! (y ≡ x) (λ e.
      use0 𝓛 (raw (fact 𝓤 (x ≡ y))) (fact_i 𝓤 (x ≡ y) (emp 𝓤) (sym e)) $ done !))))))

  pub prefix_begins : (i : ℕ) (xs ys : List T.Denot) → length xs ≤ length ys → ent 𝓤 (sep 𝓤 (sem 𝓛 (All i xs)) (sem 𝓛 (All i ys))) (fact 𝓤 (IsPrefix xs ys))
  prefix_begins i [] ys l = let none : List T.Denot = [] in qed 𝓛 (‵ (All i none) ∷ ‵ (All i ys) ∷ []) ∵ drop ! $ drop ! $ use0 𝓛 (raw (fact 𝓤 (IsPrefix none ys))) (fact_i 𝓤 (IsPrefix none ys) (emp 𝓤) (ys, refl)) $ done !
  prefix_begins i (x ∷ xs) [] l = absurd (omega arith)
  prefix_begins i (x ∷ xs) (y ∷ ys) l = qed 𝓛 ((‵ (One i x) ⊛ ‵ (All (suc i) xs)) ∷ (‵ (One i y) ⊛ ‵ (All (suc i) ys)) ∷ []) ∵ split ! $ move ! (2 ∷ []) $ split ! $ move ! (2 ∷ 0 ∷ []) $
      use2 𝓛 (raw (fact 𝓤 (x ≡ y))) (index_agree i x y) $ heard ! (x ≡ y) (λ e. move ! (1 ∷ 0 ∷ []) $
      use2 𝓛 (raw (fact 𝓤 (IsPrefix xs ys))) (prefix_begins (suc i) xs ys (omega arith)) $ heard ! (IsPrefix xs ys) (λ p.
      let Both : Type 0 = IsPrefix (x ∷ xs) (y ∷ ys) in
      use0 𝓛 (raw (fact 𝓤 Both)) (fact_i 𝓤 Both (emp 𝓤) (p.0, ap (λ z. z ∷ (xs ++ p.0)) e ∙ ap (λ zs. y ∷ zs) p.1)) $ done !))
