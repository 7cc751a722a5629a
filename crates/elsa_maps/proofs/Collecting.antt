-- What an index map holds when another pair was collected.
use Rattle.std.proofs.Common.{Some, ◌≡◌, Bool, true, false, cond, if◌then◌else◌, List, [], ◌∷◌, ◌++◌, reverse, refl, sym, ap, ◌∙◌, append-nil}
use Rattle.std.specs.Cmp.{IsEquivalence}
use Rattle.std.specs.List.{list_any}
use Rattle.std.specs.Map.{keys_of, lookup}
use Rattle.std.proofs.lemmas.List.{map-append, reverse-append}
use Rattle.std.proofs.lemmas.Slice.Zip.{all_zipped_more}
use Rattle.indexmap.specs.IndexMap.{insert_entry}
use Rattle.indexmap.specs.IndexSet.{insert_key}
use Rattle.indexmap.proofs.SetLemmas.{keys_insert_entry}
use Rattle.elsa_tables.specs.Insertions.{first_of_each, CollectsTargets}
use Rattle.elsa_tables.proofs.FirstOfEach.{first_of_each_push, same_any}

module _ {K B : Type 0} (eq : K → K → Bool) (laws : IsEquivalence eq) where
  last_first : (ps : List (K × B)) (k : K) (b : B) (q : K) → lookup (eq q) (reverse (ps ++ (k, b) ∷ [])) ≡ cond (eq k q) (Some b) (lookup (eq q) (reverse ps))
  last_first ps k b q = ap (lookup (eq q)) (reverse-append ps ((k, b) ∷ [])) ∙ ap (λ c. cond c (Some b) (lookup (eq q) (reverse ps))) (laws.symm q k)

  keys_push : (ps es : List (K × B)) (k : K) (b : B) → keys_of es ≡ keys_of (first_of_each eq (λ p. p.0) [] ps) → keys_of (insert_entry eq es k b) ≡ keys_of (first_of_each eq (λ p. p.0) [] (ps ++ (k, b) ∷ []))
  keys_push ps es k b same =
      keys_insert_entry eq es k b ∙ ap (λ l. insert_key eq l k) same
      ∙ ap (λ c. if c then keys_of firsts else keys_of firsts ++ k ∷ []) (same_any eq (λ (p : K × B). p.0) laws k [] ps)
      ∙ by (list_any (eq k) (keys_of ps)) ∙ sym (ap keys_of (first_of_each_push eq (λ (p : K × B). p.0) [] ps (k, b)))
    where
      firsts : List (K × B)
      firsts = first_of_each eq (λ p. p.0) [] ps

      by : (c : Bool) → (if c then keys_of firsts else keys_of firsts ++ k ∷ []) ≡ keys_of (firsts ++ (if c then [] else (k, b) ∷ []))
      by true = ap keys_of (sym (append-nil firsts))
      by false = sym (map-append (λ p. p.0) firsts ((k, b) ∷ []))

  -- another pair
  pub collects_push : {V T : Type 0} (target : V → T) (shown : B → T) (xs : List (K × V)) (es fs : List (K × B)) (k : K) (v : V) (b : B)
      → CollectsTargets eq target shown xs es → shown b ≡ target v → fs ≡ insert_entry eq es k b → ((q : K) → lookup (eq q) fs ≡ cond (eq k q) (Some b) (lookup (eq q) es))
      → CollectsTargets eq target shown (xs ++ (k, v) ∷ []) fs
  collects_push target shown xs es fs k v b (ps, zipped, (keys, values)) has is looks = (
    ps ++ (k, b) ∷ [],
    all_zipped_more (λ x p. (p.0 ≡ x.0) × (shown p.1 ≡ target x.1)) xs ps (k, v) (k, b) zipped (refl, has),
    (
      ap keys_of is ∙ keys_push ps es k b keys,
      λ q. looks q ∙ ap (λ o. cond (eq k q) (Some b) o) (values q) ∙ sym (last_first ps k b q),
    ),
  )

  -- nothing is collected from no pairs
  pub collects_none : {V T : Type 0} (target : V → T) (shown : B → T) (es : List (K × B)) → es ≡ [] → CollectsTargets eq {V = V} target shown [] es
  collects_none target shown es none = ([], tt, (ap keys_of none, λ k. ap (lookup (eq k)) none))
