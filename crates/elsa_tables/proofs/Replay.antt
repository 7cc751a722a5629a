-- Lemmas about calls one after the other.
use Rattle.std.proofs.Common.{◌≡◌, ℕ, List, [], ◌∷◌, ◌++◌, length, slice_get, Some, suc, Result, Ok, is_ok, if◌then◌else◌, refl, sym, ap, subst, ◌∙◌}
use Rattle.elsa_tables.specs.Replay.{Answered, Replays, IsRecorded}

module _ {S C R : Type 0} (step : S → C → R → S → Type 0) where
  -- Another call.
  pub answered_more : (s : S) (cs : List C) (rs : List R) (t : S) (c : C) (r : R) (u : S) → Answered step s cs rs t → step t c r u → Answered step s (cs ++ c ∷ []) (rs ++ r ∷ []) u
  answered_more s [] [] t c r u p q = (u, rw p q, refl)
  answered_more s (d ∷ ds) (q ∷ qs) t c r u p w = (p.0, p.1, answered_more p.0 ds qs t c r u p.2 w)
  answered_more s cs rs t c r u p w = absurd p

  -- Each call has one reply.
  pub answered_length : (s : S) (cs : List C) (rs : List R) (t : S) → Answered step s cs rs t → length rs ≡ length cs
  answered_length s [] [] t p = refl
  answered_length s (c ∷ cs) (r ∷ rs) t p = ap suc (answered_length p.0 cs rs t p.2)
  answered_length s cs rs t p = absurd p

  -- Another call, whose reply was pushed.
  pub answered_push : {A E : Type 0} (s t u : S) (cs : List C) (rs qs : List R) (c : C) (r : R) (pushed : Result A E) (x : A) → Answered step s cs rs t → step t c r u
      → pushed ≡ Ok x → qs ≡ (if is_ok pushed then rs ++ r ∷ [] else rs) → Answered step s (cs ++ c ∷ []) qs u
  answered_push s t u cs rs qs c r pushed x p q ok is =
      subst (λ (l : List R). Answered step s (cs ++ c ∷ []) l u) (sym (is ∙ ap (λ p. if is_ok p then rs ++ r ∷ [] else rs) ok)) (answered_more s cs rs t c r u p q)

  -- Another entry of a history.
  pub replays_more : (s : S) (es : List (ℕ × C × R)) (t : S) (e : ℕ × C × R) (u : S) → Replays step s es t → step t e.1 e.2 u → Replays step s (es ++ e ∷ []) u
  replays_more s [] t e u p q = (u, rw p q, refl)
  replays_more s (x ∷ xs) t e u p q = (p.0, p.1, replays_more p.0 xs t e u p.2 q)

  last_is : {X : Type 0} (xs : List X) (x : X) → slice_get (xs ++ x ∷ []) (length xs) ≡ Some x
  last_is [] x = refl
  last_is (y ∷ xs) x = last_is xs x

  -- The entry of the next step is recorded at its index.
  pub recorded_last : (s : S) (es : List (ℕ × C × R)) (t : S) (e : ℕ × C × R) (u : S) → Replays step s es t → step t e.1 e.2 u → IsRecorded step s (length es) e
  recorded_last s es t e u p q = (es ++ e ∷ [], u, replays_more s es t e u p q, last_is es e)
