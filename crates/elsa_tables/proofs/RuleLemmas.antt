-- Lemmas on rules: what a look-up by a query gives.
use Rattle.std.proofs.Common.{◌≡◌, ◌∙◌, sym, subst, refl, Bool, true, false, cond, List, [], ◌∷◌, Option, Some, None, is_some, if◌then◌else◌, rules}
use Rattle.std.proofs.lemmas.Option.{same_Some}
use Rattle.std.specs.Cmp.{IsEquivalence}
use Rattle.std.specs.Map.{lookup}
use Rattle.elsa_tables.specs.Rules.{HoldsAt, IsKept}

step : {K V : Type 0} (b : Bool) (k : K) (v w : V) (test : K → Bool) (rest : Option V) → test k ≡ b
    → (rest ≡ Some w → (x : K) × (test x ≡ true)) → cond b (Some v) rest ≡ Some w → (x : K) × (test x ≡ true)
step true k v w test rest is later h = (k, is)
step false k v w test rest is later h = later h

-- A look-up that finds a value finds a key.
pub found_key : {K V : Type 0} (test : K → Bool) (es : List (K × V)) (w : V) → lookup test es ≡ Some w → (x : K) × (test x ≡ true)
found_key test [] w h = search (rules, h)
found_key test (e ∷ es) w h = step (test e.0) e.0 e.1 w test (lookup test es) refl (found_key test es w) h

-- Two tests that agree find the same.
pub agree : {K V : Type 0} (these those : K → Bool) (es : List (K × V)) → ((y : K) → these y ≡ those y) → lookup these es ≡ lookup those es
agree these those es same = λ i. lookup (λ y. same y i) es

-- What a query finds holds, where each entry does and a query finds all keys that are equal to one that it finds.
pub found_holds : {K V : Type 0} (same : K → K → Bool) (holds : K → V → Type 0) (finds : K → Bool)
    → ((x y : K) → finds x ≡ true → finds y ≡ same x y)
    → (es : List (K × V)) → IsKept same holds es → (v : V) → lookup finds es ≡ Some v → HoldsAt holds finds v
found_holds same holds finds equals es kept v h =
    let key = found_key finds es v h in
    let held = kept key.0 v (sym (agree finds (same key.0) es (λ y. equals key.0 y key.1)) ∙ h) in
    (held.0, equals key.0 held.0 key.1 ∙ held.1, held.2)

chosen : {K V : Type 0} (same : K → K → Bool) → IsEquivalence same → (holds : K → V → Type 0) (key : K) (v : V) → holds key v
    → (q : K) (w : V) (old : Option V) (b : Bool) → same key q ≡ b → (old ≡ Some w → HoldsAt holds (same q) w) → cond b (Some v) old ≡ Some w → HoldsAt holds (same q) w
chosen same equiv holds key v held q w old true is rest h = (key, equiv.symm q key ∙ is, subst (holds key) (same_Some v w h) held)
chosen same equiv holds key v held q w old false is rest h = rest h

decided : {K V : Type 0} (same : K → K → Bool) → IsEquivalence same → (holds : K → V → Type 0) (old : List (K × V)) → IsKept same holds old
    → (key : K) (v : V) (at : Option V) → (at ≡ None → holds key v)
    → (q : K) (w : V) → (if is_some at then lookup (same q) old else (if same key q then Some v else lookup (same q) old)) ≡ Some w → HoldsAt holds (same q) w
decided same equiv holds old kept key v (Some x) held q w h = kept q w h
decided same equiv holds old kept key v None held q w h = chosen same equiv holds key v (held refl) q w (lookup (same q) old) (same key q) refl (kept q w) h

-- An insertion keeps the rule, if a value that is new holds for its key.
pub inserted_kept : {K V : Type 0} (same : K → K → Bool) → IsEquivalence same → (holds : K → V → Type 0) (old new : List (K × V)) → IsKept same holds old
    → (key : K) (v : V) → (lookup (same key) old ≡ None → holds key v)
    → ((q : K) → lookup (same q) new ≡ (if is_some (lookup (same key) old) then lookup (same q) old else (if same key q then Some v else lookup (same q) old)))
    → IsKept same holds new
inserted_kept same equiv holds old new kept key v held is q w h = decided same equiv holds old kept key v (lookup (same key) old) held q w (sym (is q) ∙ h)

-- What has the same value at each key keeps the rule.
pub same_kept : {K V : Type 0} (same : K → K → Bool) (holds : K → V → Type 0) (old new : List (K × V)) → IsKept same holds old
    → ((q : K) → lookup (same q) new ≡ lookup (same q) old) → IsKept same holds new
same_kept same holds old new kept is q w h = kept q w (sym (is q) ∙ h)

-- An empty map keeps each rule.
pub none_kept : {K V : Type 0} (same : K → K → Bool) (holds : K → V → Type 0) (es : List (K × V)) → es ≡ [] → IsKept same holds es
none_kept same holds es none q w h = search (rules, rw none at h)

-- Each map keeps the rule that says nothing.
pub any_kept : {K V : Type 0} (same : K → K → Bool) → IsEquivalence same → (es : List (K × V)) → IsKept same (λ k v. Unit {0}) es
any_kept same equiv es q w h = (q, equiv.refl q, tt)
