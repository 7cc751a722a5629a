-- Look-ups in a list of entries that grows at its end.
use Rattle.std.proofs.Common.{◌≡◌, Bool, true, false, cond, List, [], ◌∷◌, ◌++◌, None, Some, refl, sym, ap, ◌∙◌}
use Rattle.std.specs.Cmp.{IsEquivalence}
use Rattle.std.specs.HashMap.Eq.{lookup_congr}
use Rattle.std.specs.Map.{lookup}
use Rattle.std.specs.Option.{option_or}
use Rattle.elsa_tables.specs.FirstWins.{Adds, value_at}

module _ {K B : Type 0} (test : K → Bool) where
  -- A key that isn't found in the first entries is looked up in those after them.
  lookup-append : (es fs : List (K × B)) → lookup test (es ++ fs) ≡ option_or (lookup test es) (lookup test fs)
  lookup-append [] fs = refl
  lookup-append (e ∷ es) fs = ap (cond (test e.0) (Some e.1)) (lookup-append es fs) ∙ by (test e.0)
    where
      by : (b : Bool) → cond b (Some e.1) (option_or (lookup test es) (lookup test fs)) ≡ option_or (cond b (Some e.1) (lookup test es)) (lookup test fs)
      by true = refl
      by false = refl

  -- What is found stays found.
  pub found_first : (es fs : List (K × B)) (v : B) → lookup test es ≡ Some v → lookup test (es ++ fs) ≡ Some v
  found_first es fs v is = lookup-append es fs ∙ ap (λ o. option_or o (lookup test fs)) is

  -- If nothing is found, an appended entry may be.
  pub found_last : (es : List (K × B)) (k : K) (b : B) → lookup test es ≡ None → test k ≡ true → lookup test (es ++ (k, b) ∷ []) ≡ Some b
  found_last es k b none passes = lookup-append es ((k, b) ∷ []) ∙ (λ i. option_or (none i) (cond (passes i) (Some b) None))

  -- An appended entry whose key doesn't pass a test has no effect on that test.
  pub passed_over : (es : List (K × B)) (k : K) (b : B) → test k ≡ false → lookup test (es ++ (k, b) ∷ []) ≡ lookup test es
  passed_over [] k b fails = ap (λ c. cond c (Some b) None) fails
  passed_over (e ∷ es) k b fails = ap (cond (test e.0) (Some e.1)) (passed_over es k b fails)

-- An appended entry with a new key is added to the content.
pub adds_last : {K B : Type 0} (eq : K → K → Bool) (laws : IsEquivalence eq) (es : List (K × B)) (k : K) (b : B) → value_at eq es k ≡ None → Adds eq (value_at eq es) (value_at eq (es ++ (k, b) ∷ [])) k b
adds_last eq laws es k b none q = (
  (λ same. found_last (eq q) es k b (sym (lookup_congr eq laws.congr es k q same) ∙ none) (laws.symm q k ∙ same)),
  (λ other. passed_over (eq q) es k b (laws.symm q k ∙ other)),
)
