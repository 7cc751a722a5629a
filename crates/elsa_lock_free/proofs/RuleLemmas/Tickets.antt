-- A writer's tickets: each entry in the rule has one ticket of its writer, so the number of the other tickets bounds the
-- number of the writer's entries. Assumes `Logic`.
use Rattle.std.proofs.Common.{◌≡◌, ◌≢◌, ℕ, suc, ◌<◌, ◌≤◌, ◌==◌, Bool, true, false, List, [], ◌∷◌, ◌++◌, refl, ap, sym, subst, arith, append_assoc}
use Rattle.std.proofs.lemmas.List.{append-nil}
use Rattle.std.proofs.lemmas.Bool.Decides.{nat_tests}
use native.Mathlib.Decide.{ℕ_discrete, dec_lt}
use seplogic.Ra.Ura.{Ura}
use base.Logic.{SProp, ent, sep, wand, guard, emp}
use base.Fml.{Fml, ftrue, fsep}
use types.Logic.{Logic, sem}
use types.Keyed.{ticket, tickets_from, ticket_issued, entries_take, token}
use types.Kit.{‵, raw, ◌⊛◌, given, ◌$◌, ◌∵◌, !, qed, by, move, keep, drop, split, fsplit, fjoin, fpick, fpack, learn, check, done, use0, use1, use2, rewrite}
use denote.Steps.{nothing}
use Rattle.elsa_lock_free.specs.declared.event.Entry.{Entry}
use Rattle.elsa_lock_free.specs.SharedList.{bit, copied, count, entry}
use Rattle.elsa_lock_free.specs.Rights.{fact, one_ticket, tickets}
use Rattle.elsa_lock_free.proofs.RuleLemmas.History.{count_snoc}

module _ {M : Type 1} {𝓤 : Ura M} (𝓛 : Logic 𝓤) where
  abbrev Pr : Type 2
  Pr = SProp 𝓤

  abbrev ◌⊢◌ : Pr → Pr → Type 1
  P ⊢ Q = ent 𝓤 P Q

  abbrev ◌∗◌ : Pr → Pr → Pr
  P ∗ Q = sep 𝓤 P Q

  abbrev ◌-∗◌ : Pr → Pr → Pr
  P -∗ Q = wand 𝓤 P Q

  abbrev ⟦◌⟧ : Fml → Pr
  ⟦ P ⟧ = sem 𝓛 P

  infix 26 ◌⊢◌
  infixr 35 ◌∗◌
  infixr 30 ◌-∗◌
  module _ (T : Type 0) where
    abbrev Entries : Type 0
    Entries = List (Entry T)

    pub tickets_append : (pre es ds : Entries) → ⟦ tickets pre es ⟧ ∗ ⟦ tickets (pre ++ es) ds ⟧ ⊢ ⟦ tickets pre (es ++ ds) ⟧
    tickets_append pre [] ds = qed 𝓛 (‵ ftrue ∷ ‵ (tickets (pre ++ []) ds) ∷ []) ∵ rewrite ! 1 (λ (l : Entries). ‵ (tickets l ds)) (append-nil pre) refl $ keep ! (1 ∷ []) $ done !
    tickets_append pre (x ∷ es) ds = qed 𝓛 ((‵ (one_ticket pre x.writer) ⊛ ‵ (tickets (pre ++ x ∷ []) es)) ∷ ‵ (tickets (pre ++ x ∷ es) ds) ∷ []) ∵ split ! $
        rewrite ! 2 (λ (l : Entries). ‵ (tickets l ds)) (sym (append_assoc pre (x ∷ []) es)) refl $ move ! (1 ∷ 2 ∷ []) $
        use2 𝓛 (‵ (tickets (pre ++ x ∷ []) (es ++ ds))) (tickets_append (pre ++ x ∷ []) es ds) $ move ! (1 ∷ 0 ∷ []) $ fjoin ! $ done !

    -- items without a writer need none
    pub copied_tickets : (pre : Entries) (xs : List T) → emp 𝓤 ⊢ ⟦ tickets pre (copied xs) ⟧
    copied_tickets pre [] = qed 𝓛 [] ∵ nothing ! $ done !
    copied_tickets pre (x ∷ xs) = qed 𝓛 [] ∵ use0 𝓛 (‵ (tickets (pre ++ entry 0 x ∷ []) (copied xs))) (copied_tickets (pre ++ entry 0 x ∷ []) xs) $ nothing ! $ fjoin ! $ done !

    -- the tickets, and that the writer has at most n entries
    abbrev pub Bound : ℕ → ℕ → Entries → Entries → Pr
    Bound a n pre es = guard 𝓤 (count (suc a) (pre ++ es) ≤ n) (⟦ tickets pre es ⟧ ∗ ⟦ tickets_from a n ⟧)

    module _ (a n : ℕ) (pre : Entries) (e : Entry T) (es : Entries) (le : count (suc a) pre ≤ n) where
      abbrev next : Entries
      next = pre ++ e ∷ []

      abbrev Rest : Type 1
      Rest = count (suc a) next ≤ n → ⟦ tickets next es ⟧ ∗ ⟦ tickets_from a n ⟧ ⊢ Bound a n next es

      none : ¬ (e.writer ≡ suc a) → bit (e.writer == suc a) ≡ 0
      none other = let f : (e.writer == suc a) ≡ false = grind (arith, nat_tests) in ap bit f

      small : (b : Bool) → bit b ≤ 1
      small true = omega arith
      small false = omega arith

      goes : Rest → count (suc a) next ≤ n → ⟦ one_ticket pre e.writer ⟧ ∗ ⟦ tickets next es ⟧ ∗ ⟦ tickets_from a n ⟧ ⊢ Bound a n pre (e ∷ es)
      goes rest more = qed 𝓛 (‵ (one_ticket pre e.writer) ∷ ‵ (tickets next es) ∷ ‵ (tickets_from a n) ∷ []) ∵ move ! (1 ∷ 2 ∷ []) $
          use2 𝓛 (given (count (suc a) (next ++ es) ≤ n) (‵ (tickets next es) ⊛ ‵ (tickets_from a n))) (rest more) $ learn ! (λ all. split ! $
          check ! (subst (λ (l : Entries). count (suc a) l ≤ n) (append_assoc pre (e ∷ []) es) all) $ move ! (2 ∷ 0 ∷ []) $ fjoin ! $ done !)

      abbrev F : ℕ → Fml
      F k = fsep (ticket a k) (fact (count (suc a) pre ≤ k))

      by_name : Rest → Dec (e.writer ≡ suc a) → ⟦ tickets pre (e ∷ es) ⟧ ∗ ⟦ tickets_from a n ⟧ ⊢ Bound a n pre (e ∷ es)
      by_name rest (no other) = qed 𝓛 (‵ (tickets pre (e ∷ es)) ∷ ‵ (tickets_from a n) ∷ []) ∵ fsplit ! $ by ! (goes rest (let s = count_snoc (suc a) pre e in let b : bit (e.writer == suc a) ≡ 0 = none other in omega arith))
      by_name rest (yes same) = qed 𝓛 (‵ (tickets pre (e ∷ es)) ∷ ‵ (tickets_from a n) ∷ []) ∵ fsplit ! $
          rewrite ! 0 (λ (b : ℕ). ‵ (one_ticket pre b)) same refl $ fpick ! (λ k. fsplit ! $ move ! (1 ∷ []) $ fpick ! (λ so. drop ! $ move ! (0 ∷ 2 ∷ []) $
          use2 𝓛 (given (k < n) (‵ (ticket a k) ⊛ ‵ (tickets_from a n))) (ticket_issued 𝓛 a n k) $ learn ! (λ lt. split ! $ nothing ! $ fpack ! (count (suc a) pre ≤ k) (λ _. ftrue) so $ move ! (1 ∷ 0 ∷ []) $ fjoin ! $ fpack ! ℕ F k $
          rewrite ! 0 (λ (b : ℕ). ‵ (one_ticket pre b)) (sym same) refl $ move ! (0 ∷ 2 ∷ 1 ∷ []) $ by ! (goes rest (let s = count_snoc (suc a) pre e in let b = small (e.writer == suc a) in omega arith)))))

    -- a thread with a writer's tickets from n on has all entries of that writer before them
    pub tickets_bound : (a n : ℕ) (pre es : Entries) → count (suc a) pre ≤ n → ⟦ tickets pre es ⟧ ∗ ⟦ tickets_from a n ⟧ ⊢ Bound a n pre es
    tickets_bound a n pre [] le = qed 𝓛 (‵ ftrue ∷ ‵ (tickets_from a n) ∷ []) ∵ check ! (subst (λ (l : Entries). count (suc a) l ≤ n) (sym (append-nil pre)) le) $ done !
    tickets_bound a n pre (e ∷ es) le = by_name a n pre e es le (λ more. tickets_bound a n (pre ++ e ∷ []) es more) (ℕ_discrete e.writer (suc a))

  -- two passes are two writers
  pub two_writers : (a n k : ℕ) → ⟦ tickets_from a n ⟧ ∗ ⟦ tickets_from a k ⟧ ⊢ guard 𝓤 ⊥ (emp 𝓤)
  two_writers a n k = elim (dec_lt k n) as (λ _. ⟦ tickets_from a n ⟧ ∗ ⟦ tickets_from a k ⟧ ⊢ guard 𝓤 ⊥ (emp 𝓤)) [
    | yes more ↦ qed 𝓛 (‵ (tickets_from a n) ∷ ‵ (tickets_from a k) ∷ []) ∵ use1 𝓛 (‵ (ticket a n) ⊛ ‵ (tickets_from a (suc n))) (entries_take token 𝓛 a n (λ _. tt)) $ split ! $ move ! (0 ∷ 2 ∷ []) $
        use2 𝓛 (given (n < k) (‵ (ticket a n) ⊛ ‵ (tickets_from a k))) (ticket_issued 𝓛 a k n) $ learn ! (λ lt. absurd (omega (arith, more, lt)))
    | no le ↦ qed 𝓛 (‵ (tickets_from a n) ∷ ‵ (tickets_from a k) ∷ []) ∵ move ! (1 ∷ []) $ use1 𝓛 (‵ (ticket a k) ⊛ ‵ (tickets_from a (suc k))) (entries_take token 𝓛 a k (λ _. tt)) $ split ! $ move ! (0 ∷ 2 ∷ []) $
        use2 𝓛 (given (k < n) (‵ (ticket a k) ⊛ ‵ (tickets_from a n))) (ticket_issued 𝓛 a n k) $ learn ! (λ lt. absurd (omega (arith, le, lt)))
  ]

  pub two_names : (a b n k : ℕ) → ⟦ tickets_from a n ⟧ ∗ ⟦ tickets_from b k ⟧ ⊢ guard 𝓤 (a ≢ b) (⟦ tickets_from a n ⟧ ∗ ⟦ tickets_from b k ⟧)
  two_names a b n k = elim (ℕ_discrete a b) as (λ _. ⟦ tickets_from a n ⟧ ∗ ⟦ tickets_from b k ⟧ ⊢ guard 𝓤 (a ≢ b) (⟦ tickets_from a n ⟧ ∗ ⟦ tickets_from b k ⟧)) [
    | no other ↦ qed 𝓛 (‵ (tickets_from a n) ∷ ‵ (tickets_from b k) ∷ []) ∵ check ! other $ done !
    | yes same ↦ qed 𝓛 (‵ (tickets_from a n) ∷ ‵ (tickets_from b k) ∷ []) ∵ rewrite ! 1 (λ (c : ℕ). ‵ (tickets_from c k)) (sym same) refl $
        use2 𝓛 (given ⊥ (raw (emp 𝓤))) (two_writers a n k) $ learn ! (λ none. absurd none)
  ]
