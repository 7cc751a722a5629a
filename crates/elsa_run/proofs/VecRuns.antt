-- The replays of a vector, whose items are seen through a function.
use Rattle.std.proofs.Common.{◌≡◌, ◌-◌, ℕ, Bool, List, [], ◌∷◌, length, map, slice_get, refl, sym, ap, ◌∙◌, append_assoc, append-nil, Option, IsTrue, ◌↔◌}
use Rattle.std.specs.Option.{option_map}
use Rattle.std.proofs.lemmas.List.{length-map}
use Rattle.std.proofs.lemmas.Option.{slice_get-map}
use Rattle.elsa_tables.specs.Replay.{Answered}
use Rattle.elsa_run.specs.VecRun.{Answers, Step, VecRunsTo, change, pushed_on}
use Rattle.elsa_run.specs.declared.run_vec.VecCommand.{VecCommand}
use Rattle.elsa_run.specs.declared.run_vec.VecReply.{VecReply}
use Rattle.elsa_run.proofs.Runs.{ordered_runs}

not_empty : {A : Type 0} (x : A) (xs : List A) → x ∷ xs ≡ [] → ⊥
not_empty x xs e = cc

-- A list is empty exactly if it is empty as seen through the function.
pub empty_seen : {A B : Type 0} (f : A → B) (xs : List A) (b : Bool) → (IsTrue b ↔ (xs ≡ [])) → IsTrue b ↔ (map f xs ≡ [])
empty_seen f [] b h = (λ t. refl, λ e. h.1 refl)
empty_seen f (x ∷ xs) b h = (λ t. absurd (not_empty x xs (h.0 t)), λ e. absurd (not_empty (f x) (map f xs) e))

-- A read finds the item at the index, seen through the function.
pub found_seen : {A B : Type 0} (f : A → B) (xs : List A) (i : ℕ) (o : Option A) → o ≡ slice_get xs i → option_map f o ≡ slice_get (map f xs) i
found_seen f xs i o is = ap (option_map f) is ∙ sym (slice_get-map f xs i)

-- It also finds the last item.
pub last_seen : {A B : Type 0} (f : A → B) (xs : List A) (o : Option A) → o ≡ slice_get xs (length xs - 1) → option_map f o ≡ slice_get (map f xs) (length (map f xs) - 1)
last_seen f xs o is = found_seen f xs (length xs - 1) o is ∙ ap (λ n. slice_get (map f xs) (n - 1)) (sym (length-map xs f))

-- Calls that got their replies one after the other are a replay.
pub vec_runs : {T B X M : Type 0} (target : T → X) (shown : B → X) (inner : M → List B) (xs ys : List X) (cs : List (VecCommand T M)) (rs : List (VecReply B)) → Answered (Step target shown inner) xs cs rs ys → VecRunsTo target shown inner xs cs rs ys
vec_runs target shown inner = ordered_runs pushed_on append-nil (λ e x. append_assoc e.base e.accepted (x ∷ [])) (Answers target shown inner) (change target shown inner)
