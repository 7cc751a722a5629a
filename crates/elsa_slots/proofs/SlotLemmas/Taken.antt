-- With the evidence, the owner of a slot has its value. One slot of several is taken out, and put
-- back under another name. Assumes `Logic`.
use Rattle.std.proofs.Common.{◌≡◌, ℕ, zero, suc, ◌+◌, ◌*◌, ◌<◌, List, [], ◌∷◌, length, sym, refl, ap, ◌∙◌, arith}
use native.Mathlib.Nat.{zero-mul, suc-mul}
use lib.ListN.{get_or, set, drop}
use seplogic.Ra.Ura.{Ura}
use base.Stored.{Gv, gnil, gnum, gcons}
use base.Logic.{ent, sep}
use base.Fml.{GName, Fml, ftrue, fsep, fauth}
use types.Logic.{Logic, sem}
use types.Kit.{‵, given, ◌⊛◌, ◌$◌, ◌∵◌, !, qed, move, drop as skip, use1, use2, split, learn, rewrite, fsplit, fjoin, fpick, done}
use denote.RattleType.{RattleType}
use Rattle.std.specs.Prelude.{Option, Some}
use Rattle.std.specs.Mem.{type_size}
use Rattle.elsa_slots.specs.Slot.{Phase, free, busy, full, mark, written, Lies, at_rest, untagged, slots}

abbrev head : Gv → Gv
head (gcons a b) = a
head gnil = gnil
head (gnum n) = gnil

abbrev paired : Gv → ℕ
paired (gcons a b) = 1
paired gnil = 0
paired (gnum n) = 0

-- A slot whose name records that it is full contains this value.
held : (R : RattleType) (x : R.Denot) (v : Option R.Denot) (s : Phase R.Denot) → mark R (full x) ≡ mark R s → Lies R v s → v ≡ Some x
held R x v free e so = absurd (let z : 1 ≡ 0 = ap paired e in omega arith)
held R x v busy e so = absurd (let z : 1 ≡ 0 = ap paired e in omega arith)
held R x v (full y) e so = so ∙ ap Some (sym (R.coded.inj x y (ap head e)))

module _ {M : Type 1} {𝓤 : Ura M} (𝓛 : Logic 𝓤) (R : RattleType) where
  -- The owner of a slot has what was written there.
  pub ends : (own : Option R.Denot → Fml) (γ : GName) (x : R.Denot) → ent 𝓤 (sep 𝓤 (sem 𝓛 (at_rest R own γ)) (sem 𝓛 (written R γ x))) (sem 𝓛 (own (Some x)))
  ends own γ x = qed 𝓛 (‵ (at_rest R own γ) ∷ ‵ (written R γ x) ∷ []) ∵ fpick ! (λ z. fsplit ! $ move ! (1 ∷ []) $ fsplit ! $ move ! (1 ∷ []) $ fpick ! (λ so. skip ! $ move ! (2 ∷ 0 ∷ []) $
      use2 𝓛 (given (mark R (full x) ≡ mark R z.1) (‵ (written R γ x) ⊛ ‵ (fauth γ (mark R z.1)))) (𝓛.names.res_agree γ (mark R (full x)) (mark R z.1)) $ learn ! (λ e. split ! $ skip ! $ skip ! $
      rewrite ! 0 (λ (v : Option R.Denot). ‵ (own v)) (held R x z.0 z.1 e so) refl $ done !)))

  module _ (b : ℕ) where
    abbrev s : ℕ
    s = type_size R

    -- All slots except one.
    abbrev pub Others : List ℕ → ℕ → ℕ → Fml
    Others [] i o = ftrue
    Others (γ ∷ γs) zero o = slots R b (o + s) γs
    Others (γ ∷ γs) (suc i) o = fsep (at_rest R (untagged R b o) γ) (Others γs i (o + s))

    pub one_out : (γs : List ℕ) (i o at : ℕ) → i < length γs → at ≡ i * s + o
        → ent 𝓤 (sem 𝓛 (slots R b o γs)) (sep 𝓤 (sem 𝓛 (at_rest R (untagged R b at) (get_or γs i 0))) (sem 𝓛 (Others γs i o)))
    one_out [] i o at lt e = absurd (omega arith)
    one_out (γ ∷ γs) zero o at lt e = let same : o ≡ at = omega (arith, zero-mul s) in
        qed 𝓛 (‵ (slots R b o (γ ∷ γs)) ∷ []) ∵ fsplit ! $ rewrite ! 0 (λ (k : ℕ). ‵ (at_rest R (untagged R b k) γ)) same refl $ done !
    one_out (γ ∷ γs) (suc i) o at lt e =
        qed 𝓛 (‵ (slots R b o (γ ∷ γs)) ∷ []) ∵ fsplit ! $ move ! (1 ∷ []) $
        use1 𝓛 (‵ (at_rest R (untagged R b at) (get_or γs i 0)) ⊛ ‵ (Others γs i (o + s))) (one_out γs i (o + s) at (omega arith) (omega (arith, suc-mul i s))) $ split ! $ move ! (2 ∷ 1 ∷ []) $ fjoin ! $ move ! (1 ∷ 0 ∷ []) $ done !

    pub one_in : (γs : List ℕ) (i o at δ : ℕ) → i < length γs → at ≡ i * s + o
        → ent 𝓤 (sep 𝓤 (sem 𝓛 (at_rest R (untagged R b at) δ)) (sem 𝓛 (Others γs i o))) (sem 𝓛 (slots R b o (set γs i δ)))
    one_in [] i o at δ lt e = absurd (omega arith)
    one_in (γ ∷ γs) zero o at δ lt e = let same : at ≡ o = omega (arith, zero-mul s) in
        qed 𝓛 (‵ (at_rest R (untagged R b at) δ) ∷ ‵ (slots R b (o + s) γs) ∷ []) ∵ rewrite ! 0 (λ (k : ℕ). ‵ (at_rest R (untagged R b k) δ)) same refl $ fjoin ! $ done !
    one_in (γ ∷ γs) (suc i) o at δ lt e =
        qed 𝓛 (‵ (at_rest R (untagged R b at) δ) ∷ ‵ (Others (γ ∷ γs) (suc i) o) ∷ []) ∵ move ! (1 ∷ []) $ fsplit ! $ move ! (2 ∷ 1 ∷ []) $
        use2 𝓛 (‵ (slots R b (o + s) (set γs i δ))) (one_in γs i (o + s) at δ (omega arith) (omega (arith, suc-mul i s))) $ move ! (1 ∷ 0 ∷ []) $ fjoin ! $ done !

-- The later slots keep their names.
pub later_kept : (γs : List ℕ) (i δ : ℕ) → drop (suc i) (set γs i δ) ≡ drop (suc i) γs
later_kept [] i δ = refl
later_kept (γ ∷ γs) zero δ = refl
later_kept (γ ∷ γs) (suc i) δ = later_kept γs i δ
