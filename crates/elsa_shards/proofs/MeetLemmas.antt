-- Lemmas on two lists of views that meet one index at a time.
use Rattle.std.proofs.Common.{◌≡◌, ℕ, ◌+◌, ◌<◌, ◌≤◌, zero, suc, List, [], ◌∷◌, length, map, set, slice_get, refl, ap, subst, sym, ◌∙◌, arith, Some, inl, inr}
use Rattle.std.proofs.lemmas.Bool.{cases_eq}
use Rattle.std.proofs.lemmas.List.{length-map, length-set}
use Rattle.std.proofs.lemmas.Option.{slice_get-map, slice_get_within}
use Rattle.std.specs.Option.{option_map}
use Rattle.elsa_lock_free.specs.SharedList.{Meet, View}
use Rattle.elsa_shards.proofs.ShardLemmas.{kept_at, some_equal, written_at}
use Rattle.elsa_shards.specs.Shards.{AllMeet}

-- The views at the indices below k have met, and the others are as they were.
abbrev pub MeetBelow : {T : Type 0} → ℕ → List (View T) → List (View T) → List (View T) → List (View T) → Type 0
MeetBelow {T} k one one_now two two_now =
    ((length one_now ≡ length one) × (length two_now ≡ length two))
    × ((i : ℕ) (a a_now b b_now : View T) → i < k → slice_get one i ≡ Some a → slice_get one_now i ≡ Some a_now → slice_get two i ≡ Some b → slice_get two_now i ≡ Some b_now → Meet a a_now b b_now)
    × ((i : ℕ) → k ≤ i → (slice_get one_now i ≡ slice_get one i) × (slice_get two_now i ≡ slice_get two i))

-- Lists of views of the same vectors have the same length.
pub same_length : {T : Type 0} (one two : List (View T)) → map (λ v. v.vector) one ≡ map (λ v. v.vector) two → length one ≡ length two
same_length one two e = sym (length-map one (λ v. v.vector)) ∙ ap length e ∙ length-map two (λ v. v.vector)

-- A write leaves what is read at later indices.
same_elsewhere : {X : Type 0} (xs : List X) (k i : ℕ) (new : X) → k < i → slice_get (set xs k new) i ≡ slice_get xs i
same_elsewhere [] k i new lt = refl
same_elsewhere (x ∷ xs) zero zero new lt = elim lt [ ]
same_elsewhere (x ∷ xs) (suc k) zero new lt = elim lt [ ]
same_elsewhere (x ∷ xs) zero (suc i) new lt = refl
same_elsewhere (x ∷ xs) (suc k) (suc i) new lt = same_elsewhere xs k i new (omega (arith, lt))

none_below : (i : ℕ) → i < 0 → ⊥
none_below i lt = omega (arith, lt)

-- Before the first index nothing has changed.
pub meet_at_first : {T : Type 0} (one two : List (View T)) → MeetBelow 0 one one two two
meet_at_first one two = ((refl, refl), (λ i a a_now b b_now lt. elim (none_below i lt) [ ]), λ i le. (refl, refl))

-- After the last index all have met.
pub meet_at_last : {T : Type 0} (k : ℕ) (one one_now two two_now : List (View T)) → length one ≤ k → MeetBelow k one one_now two two_now → AllMeet one one_now two two_now
meet_at_last k one one_now two two_now le all =
    record { counts = all.0; met = λ i a a_now b b_now at at_now at_two at_two_now. all.1 i a a_now b b_now (omega (arith, le, slice_get_within one i a at)) at at_now at_two at_two_now }

-- If the views at the index k meet, those below k + 1 have met.
pub meet_at : {T : Type 0} (k : ℕ) (one one_now two two_now : List (View T)) (a a_now b b_now : View T) → MeetBelow k one one_now two two_now → slice_get one_now k ≡ Some a → slice_get two_now k ≡ Some b → Meet a a_now b b_now → MeetBelow (k + 1) one (set one_now k a_now) two (set two_now k b_now)
meet_at k one one_now two two_now a a_now b b_now all at at_two step = (
  (length-set one_now k a_now ∙ all.0.0, length-set two_now k b_now ∙ all.0.1),
  (λ i x x_now y y_now lt from to from_two to_two. elim (cases_eq i k) [
    | inl same ↦
        let x_is = some_equal a x (sym at ∙ (all.2 k (omega arith)).0 ∙ subst (λ j. slice_get one j ≡ Some x) same from) in
        let y_is = some_equal b y (sym at_two ∙ (all.2 k (omega arith)).1 ∙ subst (λ j. slice_get two j ≡ Some y) same from_two) in
        let x_now_is = written_at one_now k a_now x_now (subst (λ j. slice_get (set one_now k a_now) j ≡ Some x_now) same to) in
        let y_now_is = written_at two_now k b_now y_now (subst (λ j. slice_get (set two_now k b_now) j ≡ Some y_now) same to_two) in
        subst (λ v. Meet x x_now v y_now) y_is (subst (λ v. Meet v x_now b y_now) x_is (subst (λ v. Meet a x_now b v) (sym y_now_is) (subst (λ v. Meet a v b b_now) (sym x_now_is) step)))
    | inr other ↦
        all.1 i x x_now y y_now (omega (arith, lt, other)) from (kept_at one_now k i a_now x_now other to) from_two (kept_at two_now k i b_now y_now other to_two)
  ]),
  λ i le. ((same_elsewhere one_now k i a_now (omega (arith, le)) ∙ (all.2 i (omega (arith, le))).0), same_elsewhere two_now k i b_now (omega (arith, le)) ∙ (all.2 i (omega (arith, le))).1),
)

-- At the next index both views are of the same vector.
pub same_vector_at : {T : Type 0} (k : ℕ) (one one_now two two_now : List (View T)) (a b : View T) → map (λ v. v.vector) one ≡ map (λ v. v.vector) two → MeetBelow k one one_now two two_now → slice_get one_now k ≡ Some a → slice_get two_now k ≡ Some b → a.vector ≡ b.vector
same_vector_at k one one_now two two_now a b same all at at_two =
    let of_one = sym (ap (option_map (λ v. v.vector)) (sym (all.2 k (omega arith)).0 ∙ at)) in
    let of_two = ap (option_map (λ v. v.vector)) (sym (all.2 k (omega arith)).1 ∙ at_two) in
    some_equal a.vector b.vector (of_one ∙ sym (slice_get-map (λ v. v.vector) one k) ∙ ap (λ vectors. slice_get vectors k) same ∙ slice_get-map (λ v. v.vector) two k ∙ of_two)
