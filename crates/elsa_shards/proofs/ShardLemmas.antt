-- Lemmas on the views of all shards, of which one continues at a time.
use Rattle.std.proofs.Common.{◌≡◌, ℕ, zero, suc, List, [], ◌∷◌, map, set, length, slice_get, refl, ap, subst, sym, ◌∙◌, arith, Option, None, Some, inl, inr}
use Rattle.std.proofs.lemmas.Bool.{cases_eq}
use Rattle.std.proofs.lemmas.List.{length-set, get_or-set_same, get_or-set_other}
use Rattle.std.proofs.lemmas.Option.{slice_get-get_or, slice_get_within}
use base.Growing.{prefix_refl, prefix_trans}
use Rattle.elsa_lock_free.specs.SharedList.{Continues, View}
use Rattle.elsa_shards.specs.Shards.{AllContinue}

abbrev from_some : {X : Type 0} → X → Option X → X
from_some d None = d
from_some d (Some x) = x

pub some_equal : {X : Type 0} (a b : X) → Some a ≡ Some b → a ≡ b
some_equal a b e = ap (from_some a) e

-- What is read at an index that was written is what was written.
pub written_at : {X : Type 0} (xs : List X) (k : ℕ) (new x : X) → slice_get (set xs k new) k ≡ Some x → x ≡ new
written_at xs k new x at =
    let lt = slice_get_within (set xs k new) k x at in
    some_equal x new (sym at ∙ slice_get-get_or (set xs k new) k new lt ∙ ap Some (get_or-set_same xs k new new (omega (arith, lt, length-set xs k new))))

-- What is read at another index was there before.
pub kept_at : {X : Type 0} (xs : List X) (k i : ℕ) (new x : X) → (i ≡ k → ⊥) → slice_get (set xs k new) i ≡ Some x → slice_get xs i ≡ Some x
kept_at xs k i new x other at =
    let lt = slice_get_within (set xs k new) i x at in
    slice_get-get_or xs i x (omega (arith, lt, length-set xs k new)) ∙ ap Some (sym (get_or-set_other xs k i new x other)) ∙ sym (slice_get-get_or (set xs k new) i x lt) ∙ at

-- A view continues itself, and what continues it twice continues it.
pub continues_refl : {T : Type 0} (a : View T) → Continues a a
continues_refl a = ((refl, refl), prefix_refl a.seen, refl)

continues_twice : {T : Type 0} (a b c : View T) → Continues a b → Continues b c → Continues a c
continues_twice a b c p q = ((q.0.0 ∙ p.0.0, q.0.1 ∙ p.0.1), prefix_trans a.seen b.seen c.seen p.1 q.1, q.2 ∙ p.2)

-- Before the first call the views are the same.
pub continue_at_first : {T : Type 0} (views : List (View T)) → AllContinue views views
continue_at_first views = (refl, λ i before after from to. subst (λ v. Continues before v) (some_equal before after (sym from ∙ to)) (continues_refl before))

-- If one of the views continues, all of them continue.
pub continues_at : {T : Type 0} (old now : List (View T)) (k : ℕ) (b a : View T) → AllContinue old now → slice_get now k ≡ Some b → Continues b a → AllContinue old (set now k a)
continues_at old now k b a all at step = (
  length-set now k a ∙ all.0,
  λ i before after from to. elim (cases_eq i k) [
    | inl same ↦
        let is_new = written_at now k a after (subst (λ j. slice_get (set now k a) j ≡ Some after) same to) in
        let first = all.1 i before b from (subst (λ j. slice_get now j ≡ Some b) (sym same) at) in
        subst (λ v. Continues before v) (sym is_new) (continues_twice before b a first step)
    | inr other ↦ all.1 i before after from (kept_at now k i a after other to)
  ],
)

-- A view of the same vector, written in the place of a view, leaves the list of the vectors.
pub same_vectors_at : {T : Type 0} (views : List (View T)) (k : ℕ) (before after : View T) → slice_get views k ≡ Some before → after.vector ≡ before.vector → map (λ v. v.vector) (set views k after) ≡ map (λ v. v.vector) views
same_vectors_at [] k before after at same = refl
same_vectors_at (v ∷ views) zero before after at same = ap (λ x. x ∷ map (λ v. v.vector) views) (same ∙ ap (λ v. v.vector) (sym (some_equal v before at)))
same_vectors_at (v ∷ views) (suc k) before after at same = ap (λ xs. v.vector ∷ xs) (same_vectors_at views k before after at same)

not_longer : (n : ℕ) → suc n ≡ 0 → ⊥
not_longer n e = omega (arith, e)

-- Views that continue others are of the same vectors.
pub same_vectors_of : {T : Type 0} (old new : List (View T)) → AllContinue old new → map (λ v. v.vector) new ≡ map (λ v. v.vector) old
same_vectors_of [] [] all = refl
same_vectors_of [] (y ∷ ys) all = elim (not_longer (length ys) all.0) [ ]
same_vectors_of (x ∷ xs) [] all = elim (not_longer (length xs) (sym all.0)) [ ]
same_vectors_of (x ∷ xs) (y ∷ ys) all =
    ap (λ v. v ∷ map (λ w. w.vector) ys) (all.1 0 x y refl refl).0.0 ∙ ap (λ vs. x.vector ∷ vs) (same_vectors_of xs ys (omega (arith, all.0), λ i before after from to. all.1 (suc i) before after from to))
