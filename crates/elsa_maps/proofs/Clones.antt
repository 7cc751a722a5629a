-- A map of clones, made pair by pair.
use Rattle.std.proofs.Common.{◌≡◌, ℕ, ◌+◌, ◌<◌, Bool, true, false, cond, List, [], ◌∷◌, ◌++◌, length, take, drop, slice_get, get_or, Option, Some, None, is_some, refl, sym, ap, subst, ◌∙◌}
use Rattle.std.specs.Cmp.{IsEquivalence}
use Rattle.std.specs.List.{IsDistinct}
use Rattle.std.specs.Map.{keys_of, lookup}
use Rattle.std.proofs.lemmas.List.{drop_more, take-append-drop}
use Rattle.std.proofs.lemmas.List.Elements.{all_zip_more}
use Rattle.std.proofs.lemmas.Option.{get_or_from_slice_get}
use Rattle.indexmap.specs.IndexMap.{insert_entry}
use Rattle.indexmap.specs.Layout.{hash_map}
use Rattle.indexmap.proofs.CallerLemmas.{insert_entry-new}
use Rattle.indexmap.proofs.MapLemmas.{absent_before}
use Rattle.elsa_tables.specs.Insertions.{IsCloneOf}
use Rattle.elsa_maps.proofs.Indices.{none_of}

found_alike : {X : Type 0} (b : Bool) (v w : X) (r s : Option X) → is_some r ≡ is_some s → is_some (cond b (Some v) r) ≡ is_some (cond b (Some w) s)
found_alike true v w r s h = refl
found_alike false v w r s h = h

module _ {K B : Type 0} (eq : K → K → Bool) (laws : IsEquivalence eq) (is_clone : K → K → Type 0) where
  -- a key is found among the clones exactly where an equal one is found among the sources
  found_in_clones : (es fs : List (K × B)) (x y : K) → IsCloneOf eq is_clone es fs → eq x y ≡ true → is_some (lookup (eq y) fs) ≡ is_some (lookup (eq x) es)
  found_in_clones [] [] x y h e = refl
  found_in_clones (p ∷ es) (f ∷ fs) x y h e =
      ap (λ b. is_some (cond b (Some f.1) (lookup (eq y) fs))) here ∙ found_alike (eq x p.0) f.1 p.1 (lookup (eq y) fs) (lookup (eq x) es) (found_in_clones es fs x y h.1 e)
    where
      here : eq y f.0 ≡ eq x p.0
      here = sym (laws.congr x y f.0 e) ∙ laws.symm x f.0 ∙ sym (laws.congr p.0 f.0 x h.0.1) ∙ laws.symm p.0 x
  found_in_clones es fs x y h e = absurd h

  -- another clone
  pub clone_more : (es fs gs : List (K × B)) (i : ℕ) (x y : K) (b : B) → i < length es → slice_get es i ≡ Some (x, b) → IsDistinct eq (keys_of es)
      → IsCloneOf eq is_clone (take i es) fs → is_clone x y → eq x y ≡ true → gs ≡ insert_entry eq fs y b → IsCloneOf eq is_clone (take (i + 1) es) gs
  clone_more es fs gs i x y b within at distinct before cloned same is =
      subst (IsCloneOf eq is_clone (take (i + 1) es)) (sym (is ∙ insert_entry-new eq (hash_map fs (tt {0}) 0) y b absent))
      (all_zip_more (λ p q. is_clone p.0 q.0 × (eq p.0 q.0 ≡ true) × (q.1 ≡ p.1)) es fs i (x, b) (y, b) within (sym here) before (cloned, same, refl))
    where
      here : get_or es i (x, b) ≡ (x, b)
      here = get_or_from_slice_get es i (x, b) (x, b) at

      split : es ≡ take i es ++ (x, b) ∷ drop (i + 1) es
      split = sym (take-append-drop i es) ∙ ap (λ l. take i es ++ l) (drop_more es i (x, b) within ∙ ap (λ p. p ∷ drop (i + 1) es) here)

      absent : lookup (eq y) fs ≡ None
      absent = none_of (lookup (eq y) fs) (found_in_clones (take i es) fs x y before same
          ∙ ap is_some (absent_before laws (take i es) (drop (i + 1) es) (x, b) (subst (λ l. IsDistinct eq (keys_of l)) split distinct)))
