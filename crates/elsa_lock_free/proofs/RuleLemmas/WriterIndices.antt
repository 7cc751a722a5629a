-- The indices of a writer, in a list that grows.
use Rattle.std.proofs.Common.{◌≡◌, ◌≢◌, ◌⊎◌, inl, inr, slice_index_or, ℕ, zero, suc, ◌+◌, ◌<◌, ◌≤◌, ◌==◌, Bool, true, false, List, [], ◌∷◌, ◌++◌, length, if◌then◌else◌, refl, ap, sym, ◌∙◌, arith, append_assoc}
use Rattle.std.proofs.lemmas.List.{append-nil}
use Rattle.std.proofs.lemmas.Bool.Decides.{nat_tests}
use mathlib.Core.List.{IsPrefix}
use Rattle.elsa_lock_free.specs.declared.event.Entry.{Entry}
use Rattle.elsa_lock_free.specs.SharedList.{Apart, Appends, AppendsAll, written_by, bit, count, indices_from, run}
use Rattle.elsa_lock_free.proofs.RuleLemmas.History.{count_append}
use Rattle.elsa_lock_free.proofs.RuleLemmas.HoldEnd.{extended_count, published_count}

no_bit : (b : Bool) → bit b ≡ 0 → b ≡ false
no_bit true e = absurd (omega arith)
no_bit false e = refl

module _ {T : Type 0} where
  pub indices_append : (a i : ℕ) (es ds : List (Entry T)) → indices_from a i (es ++ ds) ≡ indices_from a i es ++ indices_from a (i + length es) ds
  indices_append a i [] ds = ap (λ (k : ℕ). indices_from a k ds) (let z : i ≡ i + 0 = omega arith in z)
  indices_append a i (e ∷ es) ds =
      let here : List ℕ = if e.writer == a then i ∷ [] else [] in
      let k : suc i + length es ≡ i + suc (length es) = omega arith in
      ap (λ (l : List ℕ). here ++ l) (indices_append a (suc i) es ds ∙ ap (λ (n : ℕ). indices_from a (suc i) es ++ indices_from a n ds) k)
      ∙ sym (append_assoc here (indices_from a (suc i) es) (indices_from a (i + suc (length es)) ds))

  -- a writer without entries has no indices
  pub no_indices : (a i : ℕ) (es : List (Entry T)) → count a es ≡ 0 → indices_from a i es ≡ []
  no_indices a i [] none = refl
  no_indices a i (e ∷ es) none =
      let f : (e.writer == a) ≡ false = no_bit (e.writer == a) (omega arith) in
      rw f (no_indices a (suc i) es (omega arith))

  -- where a writer has no more entries in a longer list, its indices are the same
  pub same_indices : (a : ℕ) (es fs : List (Entry T)) → IsPrefix es fs → count a fs ≡ count a es → indices_from a 0 fs ≡ indices_from a 0 es
  same_indices a es fs pre same =
      let ds : List (Entry T) = pre.0 in
      let c : count a es + count a ds ≡ count a fs = sym (count_append a es ds) ∙ ap (count a) pre.1 in
      let none : indices_from a (0 + length es) ds ≡ [] = no_indices a (0 + length es) ds (omega (arith, c, same)) in
      ap (indices_from a 0) (sym pre.1) ∙ (indices_append a 0 es ds ∙ (ap (λ (l : List ℕ). indices_from a 0 es ++ l) none ∙ append-nil (indices_from a 0 es)))

  -- an entry of its own at the end is one index more
  pub one_index_more : (a : ℕ) (es : List (Entry T)) (e : Entry T) → e.writer ≡ a → indices_from a 0 (es ++ e ∷ []) ≡ indices_from a 0 es ++ length es ∷ []
  one_index_more a es e mine =
      let is : (e.writer == a) ≡ true = grind (arith, nat_tests) in
      let k : 0 + length es ≡ length es = omega arith in
      indices_append a 0 es (e ∷ []) ∙ rw (is, k) refl

  prefix_count : (a : ℕ) (es fs : List (Entry T)) → IsPrefix es fs → count a es ≤ count a fs
  prefix_count a es fs p = let h = count_append a es p.0 in let e = ap (count a) p.1 in omega (arith, h, e)

  -- a read of the length leaves a writer's indices
  pub read_indices : (a n : ℕ) (es fs : List (Entry T)) → IsPrefix es fs → count a es ≡ n → count a fs ≤ n → (count a fs ≡ n) × (indices_from a 0 fs ≡ indices_from a 0 es)
  read_indices a n es fs p was few = let more = prefix_count a es fs p in let same : count a fs ≡ n = omega (arith, was, few, more) in (same, same_indices a es fs p (same ∙ sym was))

  -- a push adds one
  pub push_indices : (a n i : ℕ) (es fs : List (Entry T)) (e : Entry T) → Appends es fs i e → e.writer ≡ a → count a es ≡ n → count a fs ≡ suc n → indices_from a 0 fs ≡ indices_from a 0 es ++ i ∷ []
  push_indices a n i es fs e (before, pre, at, is) mine was now =
      let b : suc (count a before) ≡ count a fs = sym (published_count a before e mine) ∙ ap (count a) (sym is) in
      ap (indices_from a 0) is ∙ (one_index_more a before e mine ∙ (ap (λ (l : List ℕ). l ++ length before ∷ []) (same_indices a es before pre (omega (arith, b, was, now))) ∙ ap (λ (k : ℕ). indices_from a 0 es ++ k ∷ []) at))

  -- all indices of a writer's entries
  all_indices : (a i : ℕ) (cs : List T) → indices_from a i (written_by a cs) ≡ run i (length cs)
  all_indices a i [] = refl
  all_indices a i (c ∷ cs) = let is : (a == a) ≡ true = grind (arith, nat_tests) in rw is (ap (λ (l : List ℕ). i ∷ l) (all_indices a (suc i) cs))

  -- appended entries of a writer add their indices to its own indices
  pub extend_indices : (a n i : ℕ) (es fs : List (Entry T)) (cs : List T) → AppendsAll es fs i (written_by a cs) → count a es ≡ n → count a fs ≡ n + length cs → indices_from a 0 fs ≡ indices_from a 0 es ++ run i (length cs)
  extend_indices a n i es fs cs (before, pre, at, is) was now =
      let b : count a before + length cs ≡ count a fs = sym (extended_count a before cs) ∙ ap (count a) (sym is) in
      let k : 0 + length before ≡ i = omega (arith, at) in
      ap (indices_from a 0) is ∙ (indices_append a 0 before (written_by a cs) ∙ (ap (λ (l : List ℕ). l ++ indices_from a (0 + length before) (written_by a cs)) (same_indices a es before pre (omega (arith, b, was, now))) ∙ (ap (λ (j : ℕ). indices_from a 0 es ++ indices_from a j (written_by a cs)) k ∙ ap (λ (l : List ℕ). indices_from a 0 es ++ l) (all_indices a i cs))))

-- a number in a list, by the list's own form
In : ℕ → List ℕ → Type 0
In n [] = ⊥
In n (x ∷ xs) = (x ≡ n) ⊎ In n xs

inside : (xs : List ℕ) (n k : ℕ) → k < length xs → slice_index_or xs k n ≡ n → In n xs
unfolding In
inside [] n k low is = absurd (omega arith)
inside (x ∷ xs) n zero low is = inl is
inside (x ∷ xs) n (suc k) low is = inr (inside xs n k (omega arith) is)

module _ {T : Type 0} where
  split : (a i n : ℕ) (es : List (Entry T)) (b : Bool) → (In n (indices_from a (suc i) es) → suc i ≤ n) → In n ((if b then i ∷ [] else []) ++ indices_from a (suc i) es) → i ≤ n
  unfolding In
  split a i n es true more at = elim at [ inl e ↦ omega (arith, e) | inr h ↦ (let m = more h in omega (arith, m)) ]
  split a i n es false more at = let m = more at in omega (arith, m)

  -- a writer's index is where the list begins, or later
  later : (a i n : ℕ) (es : List (Entry T)) → In n (indices_from a i es) → i ≤ n
  unfolding In
  later a i n [] at = absurd at
  later a i n (e ∷ es) at = split a i n es (e.writer == a) (λ h. later a (suc i) n es h) at

  -- two writers have no index in common
  both : (a b i n : ℕ) (es : List (Entry T)) (p q : Bool) → (p ≡ true → q ≡ true → ⊥) → (In n (indices_from a (suc i) es) → In n (indices_from b (suc i) es) → ⊥)
      → In n ((if p then i ∷ [] else []) ++ indices_from a (suc i) es) → In n ((if q then i ∷ [] else []) ++ indices_from b (suc i) es) → ⊥
  unfolding In
  both a b i n es true true differ rest x y = differ refl refl
  both a b i n es true false differ rest x y = elim x [ inl e ↦ (let m = later b (suc i) n es y in absurd (omega (arith, e, m))) | inr h ↦ rest h y ]
  both a b i n es false true differ rest x y = elim y [ inl e ↦ (let m = later a (suc i) n es x in absurd (omega (arith, e, m))) | inr h ↦ rest x h ]
  both a b i n es false false differ rest x y = rest x y

  apart_from : (a b i n : ℕ) (es : List (Entry T)) → a ≢ b → In n (indices_from a i es) → In n (indices_from b i es) → ⊥
  unfolding In
  apart_from a b i n [] differ x y = x
  apart_from a b i n (e ∷ es) differ x y = both a b i n es (e.writer == a) (e.writer == b) (λ p q. let z : e.writer ≡ a = grind (arith, nat_tests, p) in let w : e.writer ≡ b = grind (arith, nat_tests, q) in differ (sym z ∙ w)) (apart_from a b (suc i) n es differ) x y

  pub apart_indices : (a b : ℕ) (es : List (Entry T)) → a ≢ b → Apart (indices_from a 0 es) (indices_from b 0 es)
  apart_indices a b es differ n x y = apart_from a b 0 n es differ (inside (indices_from a 0 es) n x.0 x.1 x.2) (inside (indices_from b 0 es) n y.0 y.1 y.2)
