-- Replays of any commands whose steps preserve the content of the epoch.
use Rattle.std.proofs.Common.{◌≡◌, ℕ, inl, inr, length, Option, None, MatchOption, is_none, Bool, true, false, if◌then◌else◌, List, [], ◌∷◌, ◌++◌, map, refl, sym, ap, subst, ◌∙◌, append_assoc, append-nil, Some}
use Rattle.std.specs.Cmp.{IsEquivalence}
use Rattle.std.specs.List.{list_any}
use Rattle.std.proofs.lemmas.List.{map-append}
use Rattle.elsa_tables.specs.Insertions.{first_of_each}
use Rattle.elsa_tables.specs.Replay.{Answered}
use Rattle.elsa_run.specs.Runs.{Change, Epoch, changed, held, epoch_from, InsertionAnswers, Run, RunsTo, StepsTo, Kept, Added, Replaced}
use Rattle.elsa_tables.proofs.FirstOfEach.{first_of_each_push, same_any}

module _ {X K : Type 0} (eq : K → K → Bool) (key : X → K) (laws : IsEquivalence eq) where
  -- Another accepted item is appended, unless the content has its key.
  pub held_more : (e : Epoch X) (x : X) (c : Bool) → list_any (eq (key x)) (map key (held eq key e)) ≡ c → held eq key (changed e (Added x)) ≡ held eq key e ++ (if c then [] else x ∷ [])
  held_more e x c h =
      ap (λ l. e.base ++ l) (first_of_each_push eq key (map key e.base) e.accepted x ∙ ap (λ d. first_of_each eq key (map key e.base) e.accepted ++ (if d then [] else x ∷ [])) (sym told ∙ h))
      ∙ sym (append_assoc e.base (first_of_each eq key (map key e.base) e.accepted) _)
    where
      -- The content has the key exactly if the base or an accepted insertion has it.
      told : list_any (eq (key x)) (map key (held eq key e)) ≡ list_any (eq (key x)) (map key e.base ++ map key e.accepted)
      told = ap (list_any (eq (key x))) (map-append key e.base (first_of_each eq key (map key e.base) e.accepted)) ∙ same_any eq key laws (key x) (map key e.base) e.accepted

  -- The same for an epoch that starts.
  first_more : (es : List X) (x : X) (c : Bool) → list_any (eq (key x)) (map key es) ≡ c → held eq key (changed (epoch_from es) (Added x)) ≡ es ++ (if c then [] else x ∷ [])
  first_more es x c h = held_more (epoch_from es) x c (ap (λ l. list_any (eq (key x)) (map key l)) (append-nil es) ∙ h) ∙ ap (λ l. l ++ (if c then [] else x ∷ [])) (append-nil es)

  -- An epoch that starts with the content of another one continues as that one does.
  pub goes_on : (e : Epoch X) (x : X) → held eq key (changed (epoch_from (held eq key e)) (Added x)) ≡ held eq key (changed e (Added x))
  goes_on e x = first_more (held eq key e) x _ refl ∙ sym (held_more e x _ refl)

  -- An insertion into a collection whose entries have an index, by what it finds there: it gets a
  -- possible reply, and has the effect that a replay allows.
  module _ {B R : Type 0} (item : B → X) (refused : R) (es fs : List X) (at : Option ℕ) (stands : ℕ → B → Type 0) (shows : B → Type 0)
      (absent : (b : B) → at ≡ None → shows b → list_any (eq (key (item b))) (map key es) ≡ false)
      (present : (i : ℕ) (b : B) → at ≡ Some i → stands i b → list_any (eq (key (item b))) (map key es) ≡ true)
      (form : ℕ → B → Bool → R) (i : ℕ) (b : B) (new : Bool) (says : new ≡ is_none at) where
    pub insertion_step : MatchOption at ((i ≡ length es) × shows b × (fs ≡ es ++ item b ∷ [])) (λ j. (i ≡ j) × stands i b × (fs ≡ es))
        → InsertionAnswers refused stands shows at (length es) form (form i b new) × (held eq key (changed (epoch_from es) (Added (item b))) ≡ fs)
    insertion_step = by at refl
      where
        by : (o : Option ℕ) → at ≡ o → MatchOption o ((i ≡ length es) × shows b × (fs ≡ es ++ item b ∷ [])) (λ j. (i ≡ j) × stands i b × (fs ≡ es))
            → InsertionAnswers refused stands shows at (length es) form (form i b new) × (held eq key (changed (epoch_from es) (Added (item b))) ≡ fs)
        by None a g = (inr (inl (b, (λ j. form (g.0 j) b ((says ∙ ap is_none a) j)), a, g.1)), first_more es (item b) false (absent b a g.1) ∙ sym g.2)
        by (Some j) a g =
            let index : at ≡ Some i = a ∙ ap Some (sym g.0) in
            (inl (i, b, ap (form i b) (says ∙ ap is_none a), index, g.1), first_more es (item b) true (present i b index g.1) ∙ append-nil es ∙ sym g.2)

module _ {X C R : Type 0} (content : Epoch X → List X) (Same : List X → List X → Type 0) (Answers : List X → C → R → Type 0) (change : C → R → Change X) (Step : List X → C → R → List X → Type 0)
    (keeps : (e : Epoch X) (c : C) (r : R) (es fs : List X) → Same (content e) es → Step es c r fs → Answers (content e) c r × Same (content (changed e (change c r))) fs) where
  on_from : (e : Epoch X) (es fs : List X) (cs : List C) (rs : List R) → Same (content e) es → Answered Step es cs rs fs → (f : Epoch X) × Run content Same Answers change e cs rs f × Same (content f) fs
  on_from e es fs [] [] here is = (e, refl, subst (Same (content e)) is here)
  on_from e es fs (c ∷ cs) (r ∷ rs) here (next, step, rest) =
      let t = keeps e c r es next here step in
      let later = on_from (changed e (change c r)) next fs cs rs t.1 rest in
      (later.0, (t.0, later.1), later.2)
  on_from e es fs cs rs here answered = absurd answered

  -- Calls that got their replies one after the other make a replay.
  pub runs_to : ((es : List X) → Same (content (epoch_from es)) es) → (es fs : List X) (cs : List C) (rs : List R) → Answered Step es cs rs fs → RunsTo content Same Answers change es cs rs fs
  runs_to begins es fs cs rs answered = on_from (epoch_from es) es fs cs rs (begins es) answered

-- A collection whose content is a list in order: an epoch that starts with the content of another
-- one continues as that one does.
module _ {X C R : Type 0} (content : Epoch X → List X) (begins : (es : List X) → content (epoch_from es) ≡ es)
    (goes : (e : Epoch X) (x : X) → content (changed (epoch_from (content e)) (Added x)) ≡ content (changed e (Added x))) (Answers : List X → C → R → Type 0) (change : C → R → Change X) where
  same_after : (e : Epoch X) (d : Change X) → content (changed (epoch_from (content e)) d) ≡ content (changed e d)
  same_after e Kept = begins (content e)
  same_after e (Added x) = goes e x
  same_after e (Replaced base) = refl

  pub ordered_runs : (es fs : List X) (cs : List C) (rs : List R) → Answered (StepsTo content ◌≡◌ Answers change) es cs rs fs → RunsTo content ◌≡◌ Answers change es cs rs fs
  ordered_runs = runs_to content ◌≡◌ Answers change (StepsTo content ◌≡◌ Answers change) keeps begins
    where
      keeps : (e : Epoch X) (c : C) (r : R) (es fs : List X) → content e ≡ es → StepsTo content ◌≡◌ Answers change es c r fs → Answers (content e) c r × (content (changed e (change c r)) ≡ fs)
      keeps e c r es fs here step =
          let t = subst (λ l. StepsTo content ◌≡◌ Answers change l c r fs) (sym here) step in
          (t.0, sym (same_after e (change c r)) ∙ t.1)
