-- One step of a replay of a map, from the content of an epoch to that of the next epoch.
use Rattle.std.proofs.Common.{◌≡◌, ◌+◌, inl, inr, Bool, true, false, if◌then◌else◌, List, [], ◌∷◌, ◌++◌, length, Option, None, Some, is_some, refl, sym, ap, subst, ◌∙◌, append-nil}
use Rattle.std.specs.Cmp.{IsEquivalence}
use Rattle.std.proofs.lemmas.List.{length-append}
use Rattle.std.proofs.lemmas.Map.Made.{is_some-lookup}
use Rattle.elsa_run.specs.declared.run_map.MapCommand.{MapCommand}
use Rattle.elsa_run.specs.declared.run_map.MapCommand.TheVariants.{Insert, InsertNew, Get, Len, IsEmpty, Rebase}
use Rattle.elsa_run.specs.declared.run_map.MapReply.{MapReply}
use Rattle.elsa_run.specs.declared.run_map.MapReply.TheVariants.{Item, New, Found, Count, NoMemory}
use Rattle.elsa_tables.specs.FirstWins.{Adds, value_at}
use Rattle.elsa_tables.specs.Replay.{Answered}
use Rattle.elsa_tables.proofs.Entries.{adds_last}
use Rattle.elsa_run.specs.Runs.{Change, Epoch, changed, epoch_from, held, Kept, Added}
use Rattle.elsa_run.specs.MapRun.{Answers, InsertAnswers, InsertStep, IsSame, MapRunsTo, Step, change}
use Rattle.elsa_run.proofs.Runs.{held_more, runs_to}

module _ {K B : Type 0} (eq : K → K → Bool) (laws : IsEquivalence eq) (e : Epoch (K × B)) (k : K) (b : B) where
  -- The content of the epoch, as a list.
  abbrev kept : List (K × B)
  kept = held eq (λ p. p.0) e

  -- The content with an added insertion.
  noted : (o : Option B) → value_at eq kept k ≡ o → held eq (λ p. p.0) (changed e (Added (k, b))) ≡ kept ++ (if is_some o then [] else (k, b) ∷ [])
  noted o is = held_more eq (λ p. p.0) laws e (k, b) (is_some o) (sym (is_some-lookup (eq k) kept) ∙ ap is_some is)

  -- An insertion of a present key changes nothing.
  same_again : (es : List (K × B)) → IsSame eq kept es → value_at eq es k ≡ Some b → IsSame eq (held eq (λ p. p.0) (changed e (Added (k, b)))) es
  same_again es same is = subst (λ l. IsSame eq l es) (sym (noted (Some b) (sym (same.0 k) ∙ is) ∙ append-nil kept)) same

  -- An insertion of a new key adds it.
  same_new : (es fs : List (K × B)) → IsSame eq kept es → value_at eq es k ≡ None → Adds eq (value_at eq es) (value_at eq fs) k b → length fs ≡ length es + 1 → IsSame eq (held eq (λ p. p.0) (changed e (Added (k, b)))) fs
  same_new es fs (each, count) none adds long =
      let absent : value_at eq kept k ≡ None = sym (each k) ∙ none in
      subst (λ l. IsSame eq l fs) (sym (noted None absent)) ((λ q. by q (eq k q) refl (adds_last eq laws kept k b absent q)), long ∙ ap (λ n. n + 1) count ∙ sym (length-append kept ((k, b) ∷ [])))
    where
      last : K → Option B
      last = value_at eq (kept ++ (k, b) ∷ [])

      by : (q : K) (t : Bool) → eq k q ≡ t → (eq k q ≡ true → last q ≡ Some b) × (eq k q ≡ false → last q ≡ value_at eq kept q) → value_at eq fs q ≡ last q
      by q true same at_last = (adds q).0 same ∙ sym (at_last.0 same)
      by q false other at_last = (adds q).1 other ∙ each q ∙ sym (at_last.1 other)

module _ {K V T B M : Type 0} (eq : K → K → Bool) (laws : IsEquivalence eq) (target : V → T) (shown : B → T) (base_entries : M → List (K × B)) where
  stays : (es fs gs : List (K × B)) → IsSame eq es fs → gs ≡ fs → IsSame eq es gs
  stays es fs gs same is = subst (IsSame eq es) (sym is) same

  -- An insertion, by the effect of its two replies.
  insert_keeps : (e : Epoch (K × B)) (es fs : List (K × B)) (k : K) (v : V) (form : B → Bool → MapReply B) (changes : MapReply B → Change (K × B)) (r : MapReply B)
      → ((b : B) (new : Bool) → changes (form b new) ≡ Added (k, b)) → changes NoMemory ≡ Kept → IsSame eq (held eq (λ p. p.0) e) es → InsertStep eq target shown base_entries es k v form r fs
      → InsertAnswers eq target shown base_entries (held eq (λ p. p.0) e) k v form r × IsSame eq (held eq (λ p. p.0) (changed e (changes r))) fs
  insert_keeps e es fs k v form changes r says silent same step = by step
    where
      taken : (d : Change (K × B)) → changes r ≡ d → IsSame eq (held eq (λ p. p.0) (changed e d)) fs → IsSame eq (held eq (λ p. p.0) (changed e (changes r))) fs
      taken d is = subst (λ c. IsSame eq (held eq (λ p. p.0) (changed e c)) fs) (sym is)

      by : InsertStep eq target shown base_entries es k v form r fs → InsertAnswers eq target shown base_entries (held eq (λ p. p.0) e) k v form r × IsSame eq (held eq (λ p. p.0) (changed e (changes r))) fs
      by (inl (b, is, there, left)) = (inl (b, is, sym (same.0 k) ∙ there), taken _ (ap changes is ∙ says b false) (stays _ es fs (same_again eq laws e k b es same there) left))
      by (inr (inl (b, is, none, shows, adds, long))) = (inr (inl (b, is, sym (same.0 k) ∙ none, shows)), taken _ (ap changes is ∙ says b true) (same_new eq laws e k b es fs same none adds long))
      by (inr (inr (is, none, left))) = (inr (inr (is, sym (same.0 k) ∙ none)), taken _ (ap changes is ∙ silent) (stays _ es fs same left))

  begun : (es : List (K × B)) → IsSame eq (held eq (λ p. p.0) (epoch_from es)) es
  begun es = (λ q. sym (ap (λ fs. value_at eq fs q) (append-nil es)), sym (ap length (append-nil es)))

  -- The reply to a call is possible for the content of the epoch, and the call leaves the content
  -- of the next epoch.
  step_keeps : (e : Epoch (K × B)) (c : MapCommand K V M) (r : MapReply B) (es fs : List (K × B)) → IsSame eq (held eq (λ p. p.0) e) es → Step eq target shown base_entries es c r fs
      → Answers eq target shown base_entries (held eq (λ p. p.0) e) c r × IsSame eq (held eq (λ p. p.0) (changed e (change eq target shown base_entries c r))) fs
  step_keeps e (Insert k v) r es fs same step = insert_keeps e es fs k v (λ b new. Item b) (change eq target shown base_entries (Insert k v)) r (λ b new. refl) refl same step
  step_keeps e (InsertNew k v) r es fs same step = insert_keeps e es fs k v (λ b new. New b new) (change eq target shown base_entries (InsertNew k v)) r (λ b new. refl) refl same step
  step_keeps e (Get k) r es fs same (is, left) = (is ∙ ap Found (same.0 k), stays _ es fs same left)
  step_keeps e Len r es fs same (is, left) = (is ∙ ap Count same.1, stays _ es fs same left)
  step_keeps e IsEmpty r es fs same ((flag, is, empty), left) = ((flag, is, (λ t. sym same.1 ∙ empty.0 t, λ n. empty.1 (same.1 ∙ n))), stays _ es fs same left)
  step_keeps e (Rebase m) r es fs same (is, left) = (is, stays _ (base_entries m) fs (begun (base_entries m)) left)

  -- Calls that got their replies one after the other are a replay.
  pub map_runs : (es fs : List (K × B)) (cs : List (MapCommand K V M)) (rs : List (MapReply B)) → Answered (Step eq target shown base_entries) es cs rs fs → MapRunsTo eq target shown base_entries es cs rs fs
  map_runs = runs_to (held eq (λ p. p.0)) (IsSame eq) (Answers eq target shown base_entries) (change eq target shown base_entries) (Step eq target shown base_entries) step_keeps begun
