-- What tickets show of a history that was seen: the rule is opened, with no atomic step. Assumes `Logic`.
use Rattle.std.proofs.Common.{◌≡◌, ℕ, suc, ◌≤◌, List, [], ◌∷◌, ◌++◌, map, refl, sym, ◌∙◌, ap, arith}
use mathlib.Core.List.{IsPrefix}
use seplogic.Ra.Ura.{Ura}
use base.Fraction.{full_share}
use base.Stored.{Coded}
use base.Logic.{SProp, ent, sep, ex, guard, id⊢, upd_i}
use base.Fml.{Fml, ftrue, finv, fnamed}
use base.Growing.{latest}
use types.Logic.{Logic, sem}
use types.Keyed.{tickets_from}
use types.Growing.{latest_bounds}
use types.Kit.{‵, ◌⊛◌, some, given, ◌$◌, ◌∵◌, !, qed, by, move, keep, drop, split, split3, fsplit, fsplit3, fjoin, fjoin3, fpick, fpack, pick, learn, show, check, frame, assume, suffices, done, use1, use2, rewrite}
use denote.Steps.{nothing}
use denote.RattleType.{RattleType}
use Rattle.logbook.specs.Pages.{Cell, Book, Calm}
use Rattle.logbook.specs.Kept.{roster, logs, Rules, reached, standing, contents, seen_owns}
use Rattle.logbook.proofs.Roster.{prefix_out}
use Rattle.elsa_lock_free.specs.declared.event.Event.{Event}
use Rattle.elsa_lock_free.specs.SharedList.{count, items_of}
use Rattle.elsa_lock_free.specs.History.{list_of}
use Rattle.elsa_lock_free.specs.Rights.{rule_owns, tickets, buffer_slots_of, prefix_written}
use Rattle.elsa_lock_free.proofs.RuleLemmas.History.{items_append, list_prefix}
use Rattle.elsa_lock_free.proofs.RuleLemmas.Tickets.{tickets_bound}
use Rattle.elsa_slots.proofs.SlotLemmas.Prefix.{prefix_dup, prefix_of_append}

module _ {M : Type 1} {𝓤 : Ura M} (𝓛 : Logic 𝓤) where
  open 𝓛 use {H}

  abbrev Pr : Type 2
  Pr = SProp 𝓤

  abbrev ◌⊢◌ : Pr → Pr → Type 1
  P ⊢ Q = ent 𝓤 P Q

  abbrev ◌∗◌ : Pr → Pr → Pr
  P ∗ Q = sep 𝓤 P Q

  abbrev ⟦◌⟧ : Fml → Pr
  ⟦ P ⟧ = sem 𝓛 P

  infix 26 ◌⊢◌
  infixr 35 ◌∗◌
  module _ {E : Type 0} (cv : Coded E) (rule : Rules E) (bk : Book) (names : List ℕ) where
    abbrev J : Fml
    J = contents cv.code rule bk.log_name bk.cells_name names

    abbrev N : Fml
    N = fnamed bk.number J

    abbrev had : List E → Fml
    had = reached cv.code bk.log_name

    abbrev top : List E → Fml
    top log = latest logs full_share bk.log_name (map cv.code log)

    abbrev K : List E → Fml
    K = seen_owns cv.code rule bk names

    abbrev Q : Type 0
    Q = Calm (rule.keeps names)

    unsealed : (log : List E) → ⟦ K log ⟧ ⊢ guard 𝓤 Q (⟦ N ⟧ ∗ ⟦ had log ⟧)
    unfolding Rattle.logbook.specs.Kept.seal
    unsealed log = id⊢ 𝓤 _

    under : (log l : List E) → ⟦ top log ⟧ ∗ ⟦ had l ⟧ ⊢ guard 𝓤 (IsPrefix l log) (⟦ top log ⟧ ∗ ⟦ had l ⟧)
    under log l = qed 𝓛 (‵ (top log) ∷ ‵ (had l) ∷ []) ∵ use2 𝓛 (given (IsPrefix (map cv.code l) (map cv.code log)) (‵ (top log) ⊛ ‵ (had l))) (latest_bounds logs 𝓛 full_share bk.log_name (map cv.code log) (map cv.code l)) $
        learn ! (λ p. check ! (prefix_out cv l log p) $ done !)

    shut : (cs : List Cell) (log : List E) → rule.holds cs log → ⟦ roster bk.cells_name 0 cs ⟧ ∗ ⟦ top log ⟧ ∗ ⟦ rule.keeps names (rule.shows log) ⟧ ⊢ ⟦ J ⟧
    shut cs log so = qed 𝓛 (‵ (roster bk.cells_name 0 cs) ∷ ‵ (top log) ∷ ‵ (rule.keeps names (rule.shows log)) ∷ []) ∵ nothing ! $ fpack ! (rule.holds cs log) (λ _. ftrue) so $ move ! (3 ∷ 0 ∷ []) $ fjoin ! $
        move ! (1 ∷ 2 ∷ 0 ∷ []) $ fjoin3 ! $ fpack ! (List Cell × List E) (standing cv.code rule bk.log_name bk.cells_name names) (cs, log) $ done !

    abbrev Open : List E → List Cell × List E → Pr
    Open l s = guard 𝓤 (rule.holds s.0 s.1 × IsPrefix l s.1) (⟦ roster bk.cells_name 0 s.0 ⟧ ∗ ⟦ top s.1 ⟧ ∗ ⟦ rule.keeps names (rule.shows s.1) ⟧)

    seen_under_rule : (l : List E) → ⟦ J ⟧ ∗ ⟦ had l ⟧ ⊢ ex 𝓤 (Open l)
    seen_under_rule l = qed 𝓛 (‵ J ∷ ‵ (had l) ∷ []) ∵ fpick ! (λ s. fsplit3 ! $ move ! (2 ∷ []) $ fsplit ! $ move ! (1 ∷ []) $ fpick ! (λ so. drop ! $ move ! (2 ∷ 3 ∷ []) $
        use2 𝓛 (given (IsPrefix l s.1) (‵ (top s.1) ⊛ ‵ (had l))) (under s.1 l) $ learn ! (λ p. split ! $ show ! (Open l) s $ check ! (so, p) $ keep ! (3 ∷ 0 ∷ 2 ∷ []) $ done !)))

    abbrev seeing : List E → types.Kit.Item 𝓤
    seeing l = some (λ (s : List Cell × List E). given (rule.holds s.0 s.1 × IsPrefix l s.1) (‵ (roster bk.cells_name 0 s.0) ⊛ ‵ (top s.1) ⊛ ‵ (rule.keeps names (rule.shows s.1))))

    module _ (X : Fml) (F : List E → Type 0) (test : (log : List E) → ⟦ rule.keeps names (rule.shows log) ⟧ ∗ ⟦ X ⟧ ⊢ guard 𝓤 (F log) (⟦ rule.keeps names (rule.shows log) ⟧ ∗ ⟦ X ⟧)) where
      -- X, and that the history begins with x and has F
      abbrev pub Shown : List E → List E → Pr
      Shown x log = guard 𝓤 (IsPrefix x log × F log) ⟦ X ⟧

      pub history_shows : (x : List E) → ⟦ K x ⟧ ∗ ⟦ X ⟧ ⊢ H.⇛ (ex 𝓤 (Shown x))
      history_shows x = let Z : Pr = ex 𝓤 (Shown x) in qed 𝓛 (‵ (K x) ∷ ‵ X ∷ []) ∵ use1 𝓛 (given Q (‵ N ⊛ ‵ (had x))) (unsealed x) $ learn ! (λ calm. split ! $
          use1 𝓛 (‵ (finv J)) (𝓛.invs.named_inv bk.number J) $
          suffices ! _ (𝓛.invs.inv_acc J Z) $ frame ! $ assume ! (‵ J) $ suffices ! _ (upd_i 𝓤 (⟦ J ⟧ ∗ Z)) $ use2 𝓛 (seeing x) (seen_under_rule x) $ pick ! (λ s. learn ! (λ so. split3 ! $ move ! (2 ∷ 3 ∷ []) $
          use2 𝓛 (given (F s.1) (‵ (rule.keeps names (rule.shows s.1)) ⊛ ‵ X)) (test s.1) $ learn ! (λ f. split ! $ move ! (2 ∷ 3 ∷ 0 ∷ []) $
          types.Kit.use3 𝓛 (‵ J) (shut s.0 s.1 so.0) $ frame ! $ show ! (Shown x) s.1 $ check ! (so.1, f) $ done !))))

    -- a fact that the rule yields for each history with the prefix `x`, and keeps, holds for a history that was observed
    module _ (X : Fml) (x : List E) (gives : (log : List E) → IsPrefix x log → ⟦ rule.keeps names (rule.shows log) ⟧ ⊢ ⟦ rule.keeps names (rule.shows log) ⟧ ∗ ⟦ X ⟧) where
      pub history_gives : ⟦ K x ⟧ ⊢ H.⇛ ⟦ X ⟧
      history_gives = qed 𝓛 (‵ (K x) ∷ []) ∵ use1 𝓛 (given Q (‵ N ⊛ ‵ (had x))) (unsealed x) $ learn ! (λ calm. split ! $
          use1 𝓛 (‵ (finv J)) (𝓛.invs.named_inv bk.number J) $
          suffices ! _ (𝓛.invs.inv_acc J ⟦ X ⟧) $ frame ! $ assume ! (‵ J) $ suffices ! _ (upd_i 𝓤 (⟦ J ⟧ ∗ ⟦ X ⟧)) $ use2 𝓛 (seeing x) (seen_under_rule x) $ pick ! (λ s. learn ! (λ so. split3 ! $ move ! (2 ∷ []) $
          use1 𝓛 (‵ (rule.keeps names (rule.shows s.1)) ⊛ ‵ X) (gives s.1 so.1) $ split ! $ move ! (2 ∷ 3 ∷ 0 ∷ []) $
          types.Kit.use3 𝓛 (‵ J) (shut s.0 s.1 so.0) $ done !)))

  -- a writer has no more entries in the rule than it used tickets
  pub rule_bound : (T B : RattleType) (slot_names : B.Denot → List ℕ) (fits : B.Denot → T.Denot → Type 0) (names : List ℕ) (a n : ℕ) (log : List (Event T.Denot))
      → ⟦ rule_owns T B slot_names fits names log ⟧ ∗ ⟦ tickets_from a n ⟧ ⊢ guard 𝓤 (count (suc a) (list_of log) ≤ n) (⟦ rule_owns T B slot_names fits names log ⟧ ∗ ⟦ tickets_from a n ⟧)
  rule_bound T B slot_names fits names a n log = qed 𝓛 (‵ (rule_owns T B slot_names fits names log) ∷ ‵ (tickets_from a n) ∷ []) ∵ fsplit ! $ move ! (1 ∷ []) $ fsplit ! $ move ! (1 ∷ 3 ∷ []) $
      use2 𝓛 (given (count (suc a) (list_of log) ≤ n) (‵ (tickets [] (list_of log)) ⊛ ‵ (tickets_from a n))) (tickets_bound 𝓛 T.Denot a n [] (list_of log) (omega arith)) $ learn ! (λ le. split ! $
      check ! le $ move ! (2 ∷ 0 ∷ []) $ fjoin ! $ move ! (2 ∷ 0 ∷ []) $ fjoin ! $ done !)

  -- the rule yields the evidence that a prefix of its list was written, and keeps its part
  pub rule_gives : (T B : RattleType) (slot_names : B.Denot → List ℕ) (fits : B.Denot → T.Denot → Type 0) (names : List ℕ) (x log : List (Event T.Denot)) → IsPrefix x log
      → ⟦ rule_owns T B slot_names fits names log ⟧ ⊢ ⟦ rule_owns T B slot_names fits names log ⟧ ∗ ⟦ prefix_written T B slot_names fits (buffer_slots_of names) 0 (items_of (list_of x)) ⟧
  rule_gives T B slot_names fits names x log pre =
      let q = list_prefix x log pre in let all = items_of (list_of log) in let short = items_of (list_of x) in
      let more : all ≡ short ++ items_of q.0 = sym (ap items_of q.1) ∙ items_append (list_of x) q.0 in
      let All : List T.Denot → Fml = prefix_written T B slot_names fits (buffer_slots_of names) 0 in
      qed 𝓛 (‵ (rule_owns T B slot_names fits names log) ∷ []) ∵ fsplit ! $ move ! (1 ∷ []) $ fsplit ! $
      use1 𝓛 (‵ (All all) ⊛ ‵ (All all)) (prefix_dup 𝓛 T B slot_names fits (buffer_slots_of names) 0 all) $ split ! $
      rewrite ! 0 (λ (xs : List T.Denot). ‵ (All xs)) more refl $ use1 𝓛 (‵ (All short)) (prefix_of_append 𝓛 T B slot_names fits (buffer_slots_of names) 0 short (items_of q.0)) $
      move ! (1 ∷ 2 ∷ []) $ fjoin ! $ move ! (2 ∷ 0 ∷ []) $ fjoin ! $ done !
