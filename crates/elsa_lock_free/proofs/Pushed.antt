-- What a writer has pushed, while the list grows by its own pushes and by those of others.
use Rattle.std.proofs.Common.{◌≡◌, ℕ, suc, ◌+◌, ◌==◌, Bool, true, false, List, [], ◌∷◌, ◌++◌, length, if◌then◌else◌, refl, ap, sym, ◌∙◌, arith, append_assoc}
use Rattle.std.proofs.lemmas.List.{append-nil, length-append}
use Rattle.std.proofs.lemmas.Bool.Decides.{nat_tests}
use mathlib.Core.List.{IsPrefix}
use Rattle.elsa_lock_free.specs.declared.event.Entry.{Entry}
use Rattle.elsa_lock_free.specs.SharedList.{Appends, View, entry, mine, indices_from, pushed_by}

none_left : {T : Type 0} (xs : List T) → length xs ≡ 0 → xs ≡ []
none_left [] e = refl
none_left (x ∷ xs) e = absurd (omega arith)

module _ {T : Type 0} where
  abbrev one : Bool → T → List T
  one b x = if b then x ∷ [] else []

  one_length : (b : Bool) (x : T) (i : ℕ) (xs : List T) (is : List ℕ) → length xs ≡ length is → length (one b x ++ xs) ≡ length ((if b then i ∷ [] else []) ++ is)
  one_length true x i xs is e = ap suc e
  one_length false x i xs is e = e

  -- The number of items that a writer has pushed is the number of its indices.
  pushed_length : (a i : ℕ) (es : List (Entry T)) → length (pushed_by a es) ≡ length (indices_from a i es)
  pushed_length a i [] = refl
  pushed_length a i (e ∷ es) = one_length (e.writer == a) e.item i (pushed_by a es) (indices_from a (suc i) es) (pushed_length a (suc i) es)

  pushed_append : (a : ℕ) (es ds : List (Entry T)) → pushed_by a (es ++ ds) ≡ pushed_by a es ++ pushed_by a ds
  pushed_append a [] ds = refl
  pushed_append a (e ∷ es) ds =
      let here : List T = one (e.writer == a) e.item in
      ap (λ (l : List T). here ++ l) (pushed_append a es ds) ∙ sym (append_assoc here (pushed_by a es) (pushed_by a ds))

  own_entry : (a : ℕ) (x : T) → pushed_by a (entry a x ∷ []) ≡ x ∷ []
  own_entry a x = let is : (a == a) ≡ true = grind (arith, nat_tests) in rw is refl

  -- What a writer pushed earlier is a prefix of what it pushed later.
  pub earlier : (a : ℕ) (es fs : List (Entry T)) (pre : IsPrefix es fs) → pushed_by a fs ≡ pushed_by a es ++ pushed_by a pre.0
  earlier a es fs pre = ap (pushed_by a) (sym pre.1) ∙ pushed_append a es pre.0

  -- A writer that has pushed nothing had pushed nothing before.
  pub nothing_earlier : (a : ℕ) (es fs : List (Entry T)) → IsPrefix es fs → pushed_by a fs ≡ [] → pushed_by a es ≡ []
  nothing_earlier a es fs pre none =
      let more : pushed_by a fs ≡ pushed_by a es ++ pushed_by a pre.0 = earlier a es fs pre in
      let lengths : length (pushed_by a fs) ≡ length (pushed_by a es) + length (pushed_by a pre.0) = ap (λ (l : List T). length l) more ∙ length-append (pushed_by a es) (pushed_by a pre.0) in
      let empty : length (pushed_by a fs) ≡ 0 = ap (λ (l : List T). length l) none in
      none_left (pushed_by a es) (omega (arith, lengths, empty))

  -- A writer whose number of indices is unchanged has pushed what it had pushed.
  stays : (a : ℕ) (es fs : List (Entry T)) → IsPrefix es fs → length (indices_from a 0 fs) ≡ length (indices_from a 0 es) → pushed_by a fs ≡ pushed_by a es
  stays a es fs pre same =
      let more : pushed_by a fs ≡ pushed_by a es ++ pushed_by a pre.0 = earlier a es fs pre in
      let lengths : length (pushed_by a fs) ≡ length (pushed_by a es) + length (pushed_by a pre.0) = ap (λ (l : List T). length l) more ∙ length-append (pushed_by a es) (pushed_by a pre.0) in
      let none : pushed_by a pre.0 ≡ [] = none_left (pushed_by a pre.0) (omega (arith, lengths, same, pushed_length a 0 fs, pushed_length a 0 es)) in
      more ∙ (ap (λ (l : List T). pushed_by a es ++ l) none ∙ append-nil (pushed_by a es))

  -- A writer without an index has pushed nothing.
  pub nothing_pushed : (a : ℕ) (es : List (Entry T)) → indices_from a 0 es ≡ [] → pushed_by a es ≡ []
  nothing_pushed a es none = none_left (pushed_by a es) (pushed_length a 0 es ∙ ap (λ (l : List ℕ). length l) none)

  -- A view whose own indices are unchanged has pushed what it had pushed.
  pub pushes_none : (old new : View T) → new.writer ≡ old.writer → IsPrefix old.seen new.seen → mine new ≡ mine old
      → pushed_by new.writer new.seen ≡ pushed_by old.writer old.seen
  pushes_none old new writer pre same =
      let as_old : length (indices_from old.writer 0 new.seen) ≡ length (mine old) = ap (λ (a : ℕ). length (indices_from a 0 new.seen)) (sym writer) ∙ ap (λ (l : List ℕ). length l) same in
      ap (λ (a : ℕ). pushed_by a new.seen) writer ∙ stays old.writer old.seen new.seen pre as_old

  -- A view that has gained one index, the last one, has pushed the item there.
  pub pushes_one : (old new : View T) (index : ℕ) (x : T) → new.writer ≡ old.writer → Appends old.seen new.seen index (entry old.writer x)
      → mine new ≡ mine old ++ index ∷ [] → pushed_by new.writer new.seen ≡ pushed_by old.writer old.seen ++ x ∷ []
  pushes_one old new index x writer (before, pre, at, is) more =
      let a : ℕ = old.writer in
      let split : pushed_by a new.seen ≡ pushed_by a before ++ x ∷ [] = ap (pushed_by a) is ∙ (pushed_append a before (entry a x ∷ []) ∙ ap (λ (l : List T). pushed_by a before ++ l) (own_entry a x)) in
      let grown : length (indices_from a 0 new.seen) ≡ length (mine old) + 1 = ap (λ (b : ℕ). length (indices_from b 0 new.seen)) (sym writer) ∙ (ap (λ (l : List ℕ). length l) more ∙ length-append (mine old) (index ∷ [])) in
      let lengths : length (pushed_by a new.seen) ≡ length (pushed_by a before) + 1 = ap (λ (l : List T). length l) split ∙ length-append (pushed_by a before) (x ∷ []) in
      let was : pushed_by a before ≡ pushed_by a old.seen = stays a old.seen before pre (omega (arith, lengths, grown, pushed_length a 0 new.seen, pushed_length a 0 before)) in
      ap (λ (b : ℕ). pushed_by b new.seen) writer ∙ (split ∙ ap (λ (l : List T). l ++ x ∷ []) was)
