-- Each worker is a writer of its own: two workers that pushed began with different numbers, and a
-- worker that pushed nothing can have any unused writer.
use Rattle.std.proofs.Common.{◌≡◌, ℕ, zero, suc, ◌+◌, ◌*◌, ◌/◌, ◌==◌, ◌<◌, ◌≤◌, ◌⊎◌, inl, inr, false, List, [], ◌∷◌, ◌++◌, Option, Some, None, length, get_or, map, refl, ap, subst, sym, ◌∙◌, arith, length-append}
use Rattle.std.specs.List.{slice_get}
use Rattle.std.specs.Option.{option_map}
use Rattle.std.proofs.Math.Nat.{mul-div_cancel}
use mathlib.Core.List.{IsPrefix}
use Rattle.std.proofs.lemmas.Bool.Decides.{nat_tests}
use Rattle.std.proofs.lemmas.Option.{get_or_from_slice_get, slice_get-get_or, slice_get-map, slice_get_within}
use Rattle.elsa_lock_free.specs.declared.event.Entry.{Entry}
use Rattle.elsa_program.specs.declared.shared.SharedFault.{SharedFault}
use Rattle.elsa_program.specs.declared.shared.SharedFault.TheVariants.{Memory, Gate, Check, Thread}
use Rattle.elsa_lock_free.specs.SharedList.{pushed_by}
use Rattle.elsa_program.specs.Workers.{Each, EndsAfter, HasPushed, HaveWorked, numbers}
use Rattle.elsa_lock_free.proofs.Pushed.{nothing_earlier}

-- An append doesn't change the first item.
first_stays : (xs ys : List ℕ) (x : ℕ) → slice_get xs 0 ≡ Some x → slice_get (xs ++ ys) 0 ≡ Some x
first_stays [] ys x is = cc
first_stays (z ∷ xs) ys x is = is

-- The first of at least one number is the given one.
first_number : (first n : ℕ) → slice_get (numbers first (suc n)) 0 ≡ Some first
first_number first zero = let e : first + 0 ≡ first = omega arith in ap (λ (k : ℕ). Some k) e
first_number first (suc n) = first_stays (numbers first (suc n)) ((first + suc n) ∷ []) first (first_number first n)

-- If two lists of numbers are equal and not empty, their first numbers are equal.
same_first : (a b m n : ℕ) → 0 < m → 0 < n → numbers a m ≡ numbers b n → a ≡ b
same_first a b zero n some also same = absurd (omega arith)
same_first a b (suc m) zero some also same = absurd (omega arith)
same_first a b (suc m) (suc n) some also same =
    let e : Some a ≡ Some b = sym (first_number a m) ∙ (ap (λ (l : List ℕ). slice_get l 0) same ∙ first_number b n) in cc

numbers_length : (first n : ℕ) → length (numbers first n) ≡ n
numbers_length first zero = refl
numbers_length first (suc n) = omega (arith, length-append (numbers first n) ((first + n) ∷ []), numbers_length first n)

-- A worker ends after at most `count` numbers.
ends_within : (count n : ℕ) (fault : Option SharedFault) → EndsAfter count n fault → n ≤ count
ends_within count n None ends = omega arith
ends_within count n (Some Memory) ends = omega arith
ends_within count n (Some Gate) ends = omega arith
ends_within count n (Some Check) ends = absurd ends
ends_within count n (Some Thread) ends = omega arith

-- The sum of the writers of all entries. No greater number is one of them.
abbrev sum_of_writers : List (Entry ℕ) → ℕ
sum_of_writers [] = 0
sum_of_writers (e ∷ es) = e.writer + sum_of_writers es

unused : (a : ℕ) (es : List (Entry ℕ)) → sum_of_writers es < a → pushed_by a es ≡ []
unused a [] above = refl
unused a (e ∷ es) above = let is : (e.writer == a) ≡ false = grind (arith, nat_tests) in rw is (unused a es (omega arith))

used : (a : ℕ) (es : List (Entry ℕ)) → 0 < length (pushed_by a es) → a ≤ sum_of_writers es
used a es some =
    let none : sum_of_writers es < a → length (pushed_by a es) ≡ 0 = λ above. ap (λ (l : List ℕ). length l) (unused a es above) in grind (arith, none)

-- The writer of a worker that pushed these items: its own, or an unused one if there are no items.
abbrev pick : ℕ → ℕ → List ℕ → ℕ
pick own spare [] = spare
pick own spare (x ∷ xs) = own

module _ {D : Type 0} (writer : D → ℕ) (seen : List (Entry ℕ)) where
  abbrev spare : ℕ → ℕ
  spare worker = suc (sum_of_writers seen) + worker

  abbrev chosen : ℕ → Option D → ℕ
  chosen worker None = spare worker
  chosen worker (Some d) = pick (writer d) (spare worker) (pushed_by (writer d) seen)

  nothing_spare : (worker : ℕ) → pushed_by (spare worker) seen ≡ []
  nothing_spare worker = unused (spare worker) seen (omega arith)

  picks : (own worker : ℕ) (xs : List ℕ) → pushed_by own seen ≡ xs → pushed_by (pick own (spare worker) xs) seen ≡ xs
  picks own worker [] is = nothing_spare worker
  picks own worker (x ∷ xs) is = is

  -- The chosen writer is unused, or it is the worker's own and has pushed something.
  kinds_of : (own worker : ℕ) (xs : List ℕ) → (pick own (spare worker) xs ≡ spare worker) ⊎ ((pick own (spare worker) xs ≡ own) × (0 < length xs))
  kinds_of own worker [] = inl refl
  kinds_of own worker (x ∷ xs) = inr (refl, omega arith)

  module _ (fault : D → Option SharedFault) (count : ℕ) (before : List (Entry ℕ)) (pre : IsPrefix before seen) (ds : List D)
      (work : Each (λ worker d. (pushed_by (writer d) before ≡ []) × HasPushed count worker (pushed_by (writer d) seen) (fault d)) ds) where
    abbrev chosen_at : ℕ → ℕ
    chosen_at worker = chosen worker (slice_get ds worker)

    work_at : (worker : ℕ) (d : D) → slice_get ds worker ≡ Some d → (pushed_by (writer d) before ≡ []) × HasPushed count worker (pushed_by (writer d) seen) (fault d)
    work_at worker d is =
        let Work : D → Type 0 = λ e. (pushed_by (writer e) before ≡ []) × HasPushed count worker (pushed_by (writer e) seen) (fault e) in
        subst Work (get_or_from_slice_get ds worker d d is) (work worker d (slice_get_within ds worker d is))

    fresh_of : (worker : ℕ) (o : Option D) → slice_get ds worker ≡ o → pushed_by (chosen worker o) before ≡ []
    fresh_of worker None is = nothing_earlier (spare worker) before seen pre (nothing_spare worker)
    fresh_of worker (Some d) is = elim (kinds_of (writer d) worker (pushed_by (writer d) seen)) [
      | inl none ↦ ap (λ (a : ℕ). pushed_by a before) none ∙ nothing_earlier (spare worker) before seen pre (nothing_spare worker)
      | inr own ↦ ap (λ (a : ℕ). pushed_by a before) own.0 ∙ (work_at worker d is).0
    ]

    -- Two workers that pushed as one writer began with the same number, so they are the same.
    same_worker : (w v : ℕ) (d e : D) → slice_get ds w ≡ Some d → slice_get ds v ≡ Some e → 0 < length (pushed_by (writer d) seen) → writer d ≡ writer e → w ≡ v
    same_worker w v d e at_w at_v some same =
        let one = (work_at w d at_w).1 in let two = (work_at v e at_v).1 in
        let lists : pushed_by (writer d) seen ≡ pushed_by (writer e) seen = ap (λ (a : ℕ). pushed_by a seen) same in
        let both : numbers (w * count) one.0 ≡ numbers (v * count) two.0 = sym one.1 ∙ (lists ∙ two.1) in
        let m : length (pushed_by (writer d) seen) ≡ one.0 = ap (λ (l : List ℕ). length l) one.1 ∙ numbers_length (w * count) one.0 in
        let n : length (pushed_by (writer d) seen) ≡ two.0 = ap (λ (l : List ℕ). length l) (lists ∙ two.1) ∙ numbers_length (v * count) two.0 in
        let start : w * count ≡ v * count = same_first (w * count) (v * count) one.0 two.0 (omega arith) (omega arith) both in
        let any : 0 < count = omega (arith, ends_within count one.0 (fault d) one.2, m, some) in
        sym (mul-div_cancel w any) ∙ (ap (λ (k : ℕ). k / count) start ∙ mul-div_cancel v any)

    abbrev Kind : ℕ → Option D → Type 0
    Kind worker o = (chosen worker o ≡ spare worker) ⊎ ((d : D) × (o ≡ Some d) × (chosen worker o ≡ writer d) × (0 < length (pushed_by (writer d) seen)))

    kind : (worker : ℕ) (o : Option D) → Kind worker o
    kind worker None = inl refl
    kind worker (Some d) = elim (kinds_of (writer d) worker (pushed_by (writer d) seen)) [ inl none ↦ inl none | inr own ↦ inr (d, refl, own.0, own.1) ]

    apart_by : (w v : ℕ) (o p : Option D) → slice_get ds w ≡ o → slice_get ds v ≡ p → chosen w o ≡ chosen v p → Kind w o → Kind v p → w ≡ v
    apart_by w v o p at_w at_v same (inl a) (inl b) = let h : spare w ≡ spare v = sym a ∙ (same ∙ b) in omega arith
    apart_by w v o p at_w at_v same (inl a) (inr (e, is, own, some)) =
        let h : spare w ≡ writer e = sym a ∙ (same ∙ own) in let below = used (writer e) seen some in absurd (omega arith)
    apart_by w v o p at_w at_v same (inr (d, is, own, some)) (inl b) =
        let h : writer d ≡ spare v = sym own ∙ (same ∙ b) in let below = used (writer d) seen some in absurd (omega arith)
    apart_by w v o p at_w at_v same (inr (d, is, own, some)) (inr (e, also, its, more)) =
        same_worker w v d e (at_w ∙ is) (at_v ∙ also) some (sym own ∙ (same ∙ its))

    pushed_of : (worker : ℕ) (other : Option SharedFault) (o : Option D) → slice_get ds worker ≡ o → worker < length (map fault ds)
        → HasPushed count worker (pushed_by (chosen worker o) seen) (get_or (map fault ds) worker other)
    pushed_of worker other None is below =
        let got : slice_get (map fault ds) worker ≡ None = slice_get-map fault ds worker ∙ ap (option_map fault) is in
        let some : slice_get (map fault ds) worker ≡ Some (get_or (map fault ds) worker other) = slice_get-get_or (map fault ds) worker other below in cc
    pushed_of worker other (Some d) is below =
        let got : slice_get (map fault ds) worker ≡ Some (fault d) = slice_get-map fault ds worker ∙ ap (option_map fault) is in
        let here : get_or (map fault ds) worker other ≡ fault d = get_or_from_slice_get (map fault ds) worker (fault d) other got in
        let had = (work_at worker d is).1 in
        subst (HasPushed count worker (pushed_by (chosen worker (Some d)) seen)) (sym here)
        (had.0, picks (writer d) worker (pushed_by (writer d) seen) refl ∙ had.1, had.2)

  -- If the results of the workers are theirs, each worker is a writer of its own.
  pub have_worked : (fault : D → Option SharedFault) (count : ℕ) (before : List (Entry ℕ)) (ds : List D) → IsPrefix before seen
      → Each (λ worker d. (pushed_by (writer d) before ≡ []) × HasPushed count worker (pushed_by (writer d) seen) (fault d)) ds → HaveWorked count before seen (map fault ds)
  have_worked fault count before ds pre work = record {
    writer = chosen_at fault count before pre ds work;
    apart = λ w v same. apart_by fault count before pre ds work w v (slice_get ds w) (slice_get ds v) refl refl same (kind fault count before pre ds work w (slice_get ds w)) (kind fault count before pre ds work v (slice_get ds v));
    fresh = λ w. fresh_of fault count before pre ds work w (slice_get ds w) refl;
    pushed = λ w other. pushed_of fault count before pre ds work w other (slice_get ds w) refl;
  }
