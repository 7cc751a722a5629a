-- Lists whose every item was new when it came: their beginnings, one item more, and that no item is at two indices.
use Rattle.std.proofs.Common.{◌≡◌, ◌∙◌, Bool, ℕ, zero, suc, ◌<◌, ◌⊎◌, inl, inr, List, [], ◌∷◌, ◌++◌, take, refl, ap, sym, subst, arith, Some, slice_get}
use Rattle.std.proofs.lemmas.List.{append-nil}
use mathlib.Core.List.{IsPrefix}
use Rattle.elsa_lock_free.specs.Distinct.{AgreeOnIndices, EachIsNew, EachItemIsNew, IsAbsent, IsOneToOne}
use Rattle.elsa_lock_free.specs.SharedList.{entry, items_of}
use Rattle.elsa_lock_free.specs.declared.event.Entry.{Entry}

-- of two numbers, which is less
order : (i j : ℕ) → (i ≡ j) ⊎ ((i < j) ⊎ (j < i))
order zero zero = inl refl
order zero (suc j) = inr (inl (omega arith))
order (suc i) zero = inr (inr (omega arith))
order (suc i) (suc j) = elim (order i j) [ inl s ↦ inl (ap suc s) | inr t ↦ inr (elim t [ inl l ↦ inl (omega (arith, l)) | inr r ↦ inr (omega (arith, r)) ]) ]

module _ {A : Type 0} where
  -- what a beginning has at an index, the whole has
  get_before : (xs ys : List A) (i : ℕ) (x : A) → slice_get xs i ≡ Some x → slice_get (xs ++ ys) i ≡ Some x
  get_before [] ys i x e = absurd (cc e)
  get_before (y ∷ xs) ys zero x e = e
  get_before (y ∷ xs) ys (suc i) x e = get_before xs ys i x e

  -- the indices before one of a beginning are those of the whole
  take_before : (xs ys : List A) (i : ℕ) (x : A) → slice_get xs i ≡ Some x → take i (xs ++ ys) ≡ take i xs
  take_before [] ys i x e = absurd (cc e)
  take_before (y ∷ xs) ys zero x e = refl
  take_before (y ∷ xs) ys (suc i) x e = ap (λ (l : List A). y ∷ l) (take_before xs ys i x e)

  -- what is at an index before another is at this index of those before the other
  get_below : (xs : List A) (i j : ℕ) (x : A) → i < j → slice_get xs i ≡ Some x → slice_get (take j xs) i ≡ Some x
  get_below [] i j x low e = absurd (cc e)
  get_below (y ∷ xs) i zero x low e = absurd (omega arith)
  get_below (y ∷ xs) zero (suc j) x low e = e
  get_below (y ∷ xs) (suc i) (suc j) x low e = get_below xs i j x (omega arith) e

  -- an index of a list with one item more is an index of the list, or the last
  last_or_before : (xs : List A) (x : A) (i : ℕ) (y : A) → slice_get (xs ++ x ∷ []) i ≡ Some y → (slice_get xs i ≡ Some y) ⊎ ((x ≡ y) × (take i (xs ++ x ∷ []) ≡ xs))
  last_or_before [] x zero y e = inr (cc e, refl)
  last_or_before [] x (suc i) y e = absurd (cc e)
  last_or_before (z ∷ xs) x zero y e = inl e
  last_or_before (z ∷ xs) x (suc i) y e = elim (last_or_before xs x i y e) [ inl s ↦ inl s | inr t ↦ inr (t.0, ap (λ (l : List A). z ∷ l) t.1) ]

  module _ (is_new : List A → A → Type 0) where
    -- each item of a beginning was new too
    pub prefix_is_new : (xs zs : List A) → IsPrefix xs zs → EachIsNew is_new zs → EachIsNew is_new xs
    prefix_is_new xs zs p all i x e =
        let whole : EachIsNew is_new (xs ++ p.0) = subst (EachIsNew is_new) (sym p.1) all in
        subst (λ (l : List A). is_new l x) (take_before xs p.0 i x e) (whole i x (get_before xs p.0 i x e))

    -- one new item more
    pub snoc_is_new : (xs : List A) (x : A) → EachIsNew is_new xs → is_new xs x → EachIsNew is_new (xs ++ x ∷ [])
    snoc_is_new xs x all new i y e = elim (last_or_before xs x i y e) [
      | inl s ↦ subst (λ (l : List A). is_new l y) (sym (take_before xs (x ∷ []) i y s)) (all i y s)
      | inr t ↦ subst (λ (l : List A). is_new l y) (sym t.1) (subst (λ (z : A). is_new xs z) t.0 new)
    ]

    -- where every item is new to every list
    pub any_is_new : ((xs : List A) (x : A) → is_new xs x) → (xs : List A) → EachIsNew is_new xs
    any_is_new all xs i x e = all (take i xs) x

    -- an empty list has no item
    pub none_is_new : EachIsNew is_new []
    none_is_new i x e = absurd (cc e)

  module _ (equal : A → A → Bool) (symm : (x y : A) → equal x y ≡ equal y x) where
    -- two beginnings of a list whose every item was absent when it came
    pub agree_on_indices : (xs ys zs : List A) → IsPrefix xs zs → IsPrefix ys zs → EachIsNew (IsAbsent equal) zs → AgreeOnIndices equal xs ys
    agree_on_indices xs ys zs p q all i j x y at_i at_j same =
        let whole_i : slice_get zs i ≡ Some x = subst (λ (l : List A). slice_get l i ≡ Some x) p.1 (get_before xs p.0 i x at_i) in
        let whole_j : slice_get zs j ≡ Some y = subst (λ (l : List A). slice_get l j ≡ Some y) q.1 (get_before ys q.0 j y at_j) in
        elim (order i j) [
          | inl s ↦ s
          | inr t ↦ elim t [
            | inl l ↦ absurd (cc (sym same ∙ (symm x y ∙ all j y whole_j i x (get_below zs i j x l whole_i))))
            | inr r ↦ absurd (cc (sym same ∙ all i x whole_i j y (get_below zs j i y r whole_j)))
          ]
        ]

    -- such a list is one to one
    pub one_to_one : (xs : List A) → EachIsNew (IsAbsent equal) xs → IsOneToOne equal xs
    one_to_one xs all = agree_on_indices xs xs xs ([], append-nil xs) ([], append-nil xs) all

module _ {T : Type 0} where
  -- an item is that of an entry, and the items before it are those of the entries before that one
  entry_at : (es : List (Entry T)) (i : ℕ) (x : T) → slice_get (items_of es) i ≡ Some x → (e : Entry T) × (slice_get es i ≡ Some e) × (e.item ≡ x) × (items_of (take i es) ≡ take i (items_of es))
  entry_at [] i x at = absurd (cc at)
  entry_at (e ∷ es) zero x at = (e, refl, cc at, refl)
  entry_at (e ∷ es) (suc i) x at = let f = entry_at es i x at in (f.0, f.1, f.2, ap (λ (l : List T). e.item ∷ l) f.3)

  -- where a rule reads the items alone, each item is new to those before it
  pub items_are_new : (is_new : List T → T → Type 0) (es : List (Entry T)) → EachIsNew (λ fs e. is_new (items_of fs) e.item) es → EachIsNew is_new (items_of es)
  items_are_new is_new es all i x at =
      let f = entry_at es i x at in
      subst (λ (y : T). is_new (take i (items_of es)) y) f.2 (subst (λ (l : List T). is_new l f.0.item) f.3 (all i f.0 f.1))

  -- where each entry is new, so is each item
  pub each_item_is_new : (is_new : List (Entry T) → Entry T → Type 0) (es : List (Entry T)) → EachIsNew is_new es → EachItemIsNew is_new es
  each_item_is_new is_new es all i x at =
      let f = entry_at es i x at in (f.0.writer, subst (λ (y : T). is_new (take i es) (entry f.0.writer y)) f.2 (all i f.0 f.1))
