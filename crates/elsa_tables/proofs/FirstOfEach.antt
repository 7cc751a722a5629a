-- The first item of each key, as the list of items grows.
use Rattle.std.proofs.Common.{◌≡◌, Bool, true, false, ◌||◌, if◌then◌else◌, List, [], ◌∷◌, ◌++◌, map, refl, sym, ap, ◌∙◌, append_assoc, append-nil}
use Rattle.std.specs.Cmp.{IsEquivalence}
use Rattle.std.specs.List.{list_any}
use Rattle.std.proofs.lemmas.List.Folds.{list_any-append}
use Rattle.elsa_tables.specs.Insertions.{first_of_each}

module _ {K : Type 0} (eq : K → K → Bool) (laws : IsEquivalence eq) (k : K) (xs : List K) (a : K) (has : list_any (eq a) xs ≡ true) where
  -- A key that equals one of the list adds none to it.
  adds_none : list_any (eq k) (xs ++ a ∷ []) ≡ list_any (eq k) xs
  adds_none = list_any-append (eq k) xs (a ∷ []) ∙ by (list_any (eq k) xs) (eq k a) (λ same. ap (λ t. list_any t xs) (λ j y. laws.congr k a y same j) ∙ has)
    where
      by : (x y : Bool) → (y ≡ true → x ≡ true) → (x || (y || false)) ≡ x
      by true y covered = refl
      by false true covered = sym (covered refl)
      by false false covered = refl

  -- So it may be left out.
  left_out : (ys : List K) → list_any (eq k) (xs ++ ys) ≡ list_any (eq k) ((xs ++ a ∷ []) ++ ys)
  left_out ys = list_any-append (eq k) xs ys ∙ ap (λ b. b || list_any (eq k) ys) (sym adds_none) ∙ sym (list_any-append (eq k) (xs ++ a ∷ []) ys)

module _ {X K : Type 0} (eq : K → K → Bool) (key : X → K) (laws : IsEquivalence eq) (k : K) where
  -- The first items have a key exactly if the items have it.
  pub same_any : (before : List K) (xs : List X) → list_any (eq k) (before ++ map key (first_of_each eq key before xs)) ≡ list_any (eq k) (before ++ map key xs)
  same_any before [] = refl
  same_any before (x ∷ xs) = by (list_any (eq (key x)) before) refl (same_any (before ++ key x ∷ []) xs ∙ ap (list_any (eq k)) (append_assoc before (key x ∷ []) (map key xs)))
    where
      rest : List X
      rest = first_of_each eq key (before ++ key x ∷ []) xs

      by : (b : Bool) → list_any (eq (key x)) before ≡ b → list_any (eq k) ((before ++ key x ∷ []) ++ map key rest) ≡ list_any (eq k) (before ++ key x ∷ map key xs)
          → list_any (eq k) (before ++ map key ((if b then [] else x ∷ []) ++ rest)) ≡ list_any (eq k) (before ++ key x ∷ map key xs)
      by true e inside = left_out eq laws k before (key x) e (map key rest) ∙ inside
      by false e inside = ap (list_any (eq k)) (sym (append_assoc before (key x ∷ []) (map key rest))) ∙ inside

module _ {X K : Type 0} (eq : K → K → Bool) (key : X → K) where
  -- An item that is appended is a first item exactly if no item before it has its key.
  pub first_of_each_push : (before : List K) (xs : List X) (y : X) → first_of_each eq key before (xs ++ y ∷ []) ≡ first_of_each eq key before xs ++ (if list_any (eq (key y)) (before ++ map key xs) then [] else y ∷ [])
  first_of_each_push before [] y = append-nil _ ∙ ap (λ l. if list_any (eq (key y)) l then [] else y ∷ []) (sym (append-nil before))
  first_of_each_push before (x ∷ xs) y =
      let here = if list_any (eq (key x)) before then [] else x ∷ [] in
      ap (λ l. here ++ l) (first_of_each_push (before ++ key x ∷ []) xs y)
      ∙ sym (append_assoc here (first_of_each eq key (before ++ key x ∷ []) xs) _)
      ∙ ap (λ l. (here ++ first_of_each eq key (before ++ key x ∷ []) xs) ++ (if list_any (eq (key y)) l then [] else y ∷ [])) (append_assoc before (key x ∷ []) (map key xs))
