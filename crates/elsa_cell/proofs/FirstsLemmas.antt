-- What a map has after pairs were inserted in their order.
use Rattle.std.proofs.Common.{◌≡◌, ℕ, Bool, true, false, is_some, ◌||◌, List, [], ◌∷◌, ◌++◌, cond, map, if◌then◌else◌, Some, append-nil, append_assoc, refl, sym, ap, ◌∙◌}
use Rattle.std.proofs.lemmas.List.{map-append}
use Rattle.std.specs.Cmp.{IsEquivalence}
use Rattle.std.specs.List.{list_any}
use Rattle.std.specs.Map.{keys_of, lookup}
use Rattle.elsa_tables.specs.Insertions.{first_of_each}
use Rattle.elsa_tables.proofs.FirstOfEach.{first_of_each_push, same_any}
use Rattle.elsa_cell.specs.declared.map.Entry.{Entry}
use Rattle.elsa_cell.specs.Entries.{Inserts, key_of, pair_of, pairs_of}
use Rattle.elsa_cell.specs.Extended.{AppendsFirsts}
use Rattle.elsa_cell.proofs.EntryLemmas.{keys_pairs}

-- No pair.
pub firsts_none : {K V : Type 0} (equal : K → K → Bool) (es : List (Entry K V)) → AppendsFirsts equal es [] es
firsts_none equal es = sym (append-nil (pairs_of es))

-- A key is among the keys exactly if it has a value.
any_of : {K B : Type 0} (test : K → Bool) (ps : List (K × B)) → list_any test (keys_of ps) ≡ is_some (lookup test ps)
any_of test [] = refl
any_of test (p ∷ ps) = ap (λ b. test p.0 || b) (any_of test ps) ∙ by (test p.0)
  where
    by : (b : Bool) → (b || is_some (lookup test ps)) ≡ is_some (cond b (Some p.1) (lookup test ps))
    by true = refl
    by false = refl

module _ {K V : Type 0} (equal : K → K → Bool) (laws : IsEquivalence equal) (old es : List (Entry K V)) (xs : List (K × V)) (key : K) (value : V) (held : AppendsFirsts equal old xs es) where
  abbrev first : K × V → K
  first p = p.0

  abbrev firsts : List (K × V)
  firsts = first_of_each equal (λ p. p.0) (map key_of old) xs

  joined : map key_of old ++ map first firsts ≡ keys_of (pairs_of es)
  joined = ap (λ l. l ++ map first firsts) (sym (keys_pairs old)) ∙ sym (ap keys_of held ∙ map-append first (pairs_of old) firsts)

  known : list_any (equal key) (map key_of old ++ map first xs) ≡ is_some (lookup (equal key) (pairs_of es))
  known = sym (same_any equal first laws key (map key_of old) xs) ∙ (ap (list_any (equal key)) joined ∙ any_of (equal key) (pairs_of es))

  pushed : (c : Bool) → is_some (lookup (equal key) (pairs_of es)) ≡ c → first_of_each equal first (map key_of old) (xs ++ (key, value) ∷ []) ≡ firsts ++ (if c then [] else (key, value) ∷ [])
  pushed c e = first_of_each_push equal first (map key_of old) xs (key, value) ∙ ap (λ d. firsts ++ (if d then [] else (key, value) ∷ [])) (known ∙ e)

  -- Another pair.
  pub firsts_more : (fs : List (Entry K V)) (kept : V) (index : ℕ) (is_new : Bool) → Inserts equal es fs key value kept index is_new → AppendsFirsts equal old (xs ++ (key, value) ∷ []) fs
  firsts_more fs kept index true i =
      ap pairs_of i.1.2
      ∙ (map-append pair_of es (i.1.0 ∷ [])
      ∙ (ap (λ p. pairs_of es ++ p ∷ []) i.1.1
      ∙ (ap (λ l. l ++ (key, value) ∷ []) held
      ∙ (append_assoc (pairs_of old) firsts ((key, value) ∷ [])
      ∙ ap (λ l. pairs_of old ++ l) (sym (pushed false (ap is_some i.0)))))))
  firsts_more fs kept index false i =
      ap pairs_of i.2
      ∙ (held
      ∙ (ap (λ l. pairs_of old ++ l) (sym (append-nil firsts))
      ∙ ap (λ l. pairs_of old ++ l) (sym (pushed true (ap is_some i.0)))))
