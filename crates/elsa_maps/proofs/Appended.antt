-- What an insertion leaves of the entries, if a new entry is the last one.
use Rattle.std.proofs.Common.{◌≡◌, ◌↔◌, Bool, is_some, false, true, true≢false, Result, Ok, Err, IfOk, OnErr, List, [], ◌∷◌, ◌++◌, None, Option, Some, refl, sym, ap, subst, ◌∙◌}
use Rattle.std.proofs.lemmas.List.{append-nil}
use Rattle.elsa_tables.specs.FirstWins.{value_at}
use Rattle.elsa_tables.specs.Insertions.{Grows}

module _ {K B E : Type 0} (eq : K → K → Bool) (es fs : List (K × B)) (k : K) (result : Result (B × Bool) E) (present : (x : B) → value_at eq es k ≡ Some x → (result ≡ Ok (x, false)) × (fs ≡ es))
    (new_last : value_at eq es k ≡ None → IfOk result (λ r. fs ≡ es ++ (k, r.0) ∷ [])) where
  -- Each earlier entry keeps its index.
  pub insert_grows : OnErr result ((fs ≡ es) × (value_at eq es k ≡ None)) → Grows es fs
  insert_grows refused = by (value_at eq es k) refl result new_last refused
    where
      same : fs ≡ es → Grows es fs
      same is = ([], is ∙ sym (append-nil es))

      by : (o : Option B) → value_at eq es k ≡ o → (r : Result (B × Bool) E) → (value_at eq es k ≡ None → IfOk r (λ a. fs ≡ es ++ (k, a.0) ∷ [])) → OnErr r ((fs ≡ es) × (value_at eq es k ≡ None)) → Grows es fs
      by (Some x) is r last left = same (present x is).1
      by None is (Ok a) last left = ((k, a.0) ∷ [], last is)
      by None is (Err e) last left = same left.0

  -- If the key was new, its entry is the last one.
  pub insert_last : IfOk result (λ r. r.1 ≡ true → fs ≡ es ++ (k, r.0) ∷ [])
  insert_last = by (value_at eq es k) refl result refl new_last
    where
      P : Result (B × Bool) E → Type 0
      P s = IfOk s (λ a. a.1 ≡ true → fs ≡ es ++ (k, a.0) ∷ [])

      by : (o : Option B) → value_at eq es k ≡ o → (r : Result (B × Bool) E) → result ≡ r → (value_at eq es k ≡ None → IfOk r (λ a. fs ≡ es ++ (k, a.0) ∷ [])) → P r
      by (Some x) is r at last = subst P (sym (present x is).0 ∙ at) (λ f. absurd (true≢false (sym f)))
      by None is (Ok a) at last = λ _. last is
      by None is (Err e) at last = tt

  -- The flag is true exactly if the key was new.
  pub insert_flag : (P : B × Bool → Type 0) → (value_at eq es k ≡ None → IfOk result (λ r. (r.1 ≡ true) × P r)) → IfOk result (λ r. (r.1 ≡ true) ↔ (value_at eq es k ≡ None))
  insert_flag P added = by (value_at eq es k) refl result refl added
    where
      F : Result (B × Bool) E → Type 0
      F s = IfOk s (λ a. (a.1 ≡ true) ↔ (value_at eq es k ≡ None))

      by : (o : Option B) → value_at eq es k ≡ o → (r : Result (B × Bool) E) → result ≡ r → (value_at eq es k ≡ None → IfOk r (λ a. (a.1 ≡ true) × P a)) → F r
      by (Some x) is r at h = subst F (sym (present x is).0 ∙ at) ((λ f. absurd (true≢false (sym f))), (λ none. absurd (true≢false (ap is_some (sym is ∙ none)))))
      by None is (Ok a) at h = ((λ _. is), (λ none. (h none).0))
      by None is (Err e) at h = tt
