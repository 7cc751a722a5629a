-- What one insertion into an index map leaves, and that order plays no part in the equality of maps.
use Rattle.std.proofs.Common.{◌≡◌, ℕ, Bool, true, false, List, [], ◌∷◌, ◌++◌, length, position, refl, sym, ap, ◌∙◌, Option, None, Some, MatchOption, IsPermutation, is_none}
use Rattle.std.specs.Cmp.{IsEquivalence}
use Rattle.std.specs.List.{IsDistinct}
use Rattle.std.specs.Map.{keys_of, lookup}
use Rattle.std.specs.Option.{option_eq}
use Rattle.std.proofs.lemmas.List.{length-map, map-append}
use Rattle.indexmap.proofs.MapLemmas.{lookup_permutation}
use Rattle.elsa_tables.specs.FirstWins.{same_values, value_at}
use Rattle.elsa_tables.specs.Insertions.{index_of, Inserted}
use Rattle.elsa_tables.proofs.Entries.{found_last}
use Rattle.elsa_tables.proofs.MapEquality.{same_from_each}
use Rattle.elsa_maps.proofs.Indices.{no_value, index_of_last, value_there}

-- after an insertion the key is at the index that was returned, and has the value that was returned
pub stands_inserted : {K V T B : Type 0} (eq : K → K → Bool) (laws : IsEquivalence eq) (target : V → T) (shown : B → T) (es : List (K × B)) (k : K) (v : V) (i : ℕ) (b : B) (fs : List (K × B))
    → Inserted eq target shown es k v i b fs → (index_of eq fs k ≡ Some i) × (value_at eq fs k ≡ Some b)
stands_inserted eq laws target shown es k v i b fs h = by (index_of eq es k) refl h
  where
    by : (o : Option ℕ) → index_of eq es k ≡ o → MatchOption o ((i ≡ length es) × (shown b ≡ target v) × (fs ≡ es ++ (k, b) ∷ [])) (λ j. (i ≡ j) × (value_at eq es k ≡ Some b) × (fs ≡ es)) → (index_of eq fs k ≡ Some i) × (value_at eq fs k ≡ Some b)
    by None at g = (
      ap (λ l. index_of eq l k) g.2 ∙ ap (position (eq k)) (map-append (λ p. p.0) es ((k, b) ∷ [])) ∙ index_of_last (eq k) (keys_of es) k at (laws.refl k) ∙ ap Some (length-map es (λ p. p.0) ∙ sym g.0),
      ap (lookup (eq k)) g.2 ∙ found_last (eq k) es k b (no_value eq es k at) (laws.refl k),
    )
    by (Some j) at g = (ap (λ l. index_of eq l k) g.2 ∙ at ∙ ap Some (sym g.0), ap (lookup (eq k)) g.2 ∙ g.1)

-- an insertion in the words that all forms of map share is one at an index, if a new pair goes last
pub at_its_index : {K V T B : Type 0} (eq : K → K → Bool) (target : V → T) (shown : B → T) (es : List (K × B)) (k : K) (v : V) (b : B) (fs : List (K × B))
    → ((x : B) → value_at eq es k ≡ Some x → fs ≡ es) → value_at eq fs k ≡ Some b → (value_at eq es k ≡ None → (shown b ≡ target v) × (fs ≡ es ++ (k, b) ∷ []))
    → (i : ℕ) × Inserted eq target shown es k v i b fs
at_its_index eq target shown es k v b fs stays stands adds = by (index_of eq es k) refl
  where
    by : (o : Option ℕ) → index_of eq es k ≡ o → (i : ℕ) × MatchOption o ((i ≡ length es) × (shown b ≡ target v) × (fs ≡ es ++ (k, b) ∷ [])) (λ j. (i ≡ j) × (value_at eq es k ≡ Some b) × (fs ≡ es))
    by None at = let a = adds (no_value eq es k at) in (length es, (refl, a.0, a.1))
    by (Some j) at = let had = value_there eq es k j at in let same = stays had.0 had.1 in (j, (refl, ap (λ gs. value_at eq gs k) (sym same) ∙ stands, same))

-- a flag that is false where the key has a value and true where it has none says whether the key has no index
pub flag_of_index : {K B : Type 0} (eq : K → K → Bool) (es : List (K × B)) (k : K) (new : Bool) → ((x : B) → value_at eq es k ≡ Some x → new ≡ false) → (value_at eq es k ≡ None → new ≡ true)
    → new ≡ is_none (index_of eq es k)
flag_of_index eq es k new present added = by (index_of eq es k) refl
  where
    by : (o : Option ℕ) → index_of eq es k ≡ o → new ≡ is_none o
    by None at = added (no_value eq es k at)
    by (Some j) at = let had = value_there eq es k j at in present had.0 had.1

-- the same pairs in another order are the same map
pub same_in_any_order : {K B : Type 0} (eq : K → K → Bool) (laws : IsEquivalence eq) (same : B → B → Bool) (alike_itself : (b : B) → same b b ≡ true) (es fs : List (K × B))
    → IsDistinct eq (keys_of fs) → IsPermutation es fs → same_values eq same es fs ≡ true
same_in_any_order {B = B} eq laws same alike_itself es fs distinct moved =
    same_from_each eq same es fs (λ q. ap (option_eq same (lookup (eq q) es)) (lookup_permutation laws es fs moved distinct (eq q) (laws.congr q)) ∙ alike (lookup (eq q) es))
  where
    alike : (o : Option B) → option_eq same o o ≡ true
    alike None = refl
    alike (Some b) = alike_itself b
