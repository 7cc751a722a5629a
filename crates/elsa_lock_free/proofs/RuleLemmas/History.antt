-- How an event that is appended to a history changes it.
use Rattle.std.proofs.Common.{◌≡◌, ℕ, suc, drop, ◌+◌, ◌≤◌, ◌==◌, Bool, List, [], ◌∷◌, ◌++◌, length, refl, ap, sym, ◌∙◌, arith, length-append, append_assoc}
use Rattle.std.proofs.lemmas.List.{append-nil, drop_at, length-map, map-append}
use Rattle.elsa_lock_free.specs.declared.event.Entry.{Entry}
use Rattle.elsa_lock_free.specs.declared.event.Event.{Event}
use Rattle.elsa_lock_free.specs.declared.event.Event.TheVariants.{Acquired, Published, Extended, Cloned, Released, OfferOf}
use mathlib.Core.List.{IsPrefix}
use Rattle.elsa_lock_free.specs.SharedList.{written_by, bit, copied, count, item_of, items_of}
use Rattle.elsa_lock_free.specs.History.{list_of, entries, begins_hold, held_from, added_by, added, behind}

-- all that the events added
abbrev total : List ℕ → ℕ
total [] = 0
total (n ∷ ns) = n + total ns

module _ {T : Type 0} where
  pub held_snoc : (b : Bool) (xs : List (Event T)) (e : Event T) → held_from b (xs ++ e ∷ []) ≡ begins_hold e
  held_snoc b [] e = refl
  held_snoc b (x ∷ xs) e = held_snoc (begins_hold x) xs e

  pub list_snoc : (xs : List (Event T)) (e : Event T) → list_of (xs ++ e ∷ []) ≡ list_of xs ++ entries e
  list_snoc [] e = append-nil (entries e)
  list_snoc (x ∷ xs) e = ap (λ (l : List (Entry T)). entries x ++ l) (list_snoc xs e) ∙ sym (append_assoc (entries x) (list_of xs) (entries e))

  pub count_snoc : (a : ℕ) (pre : List (Entry T)) (e : Entry T) → count a (pre ++ e ∷ []) ≡ count a pre + bit (e.writer == a)
  count_snoc a [] e = omega arith
  count_snoc a (x ∷ pre) e = let h = count_snoc a pre e in omega arith

  pub added_snoc : (xs : List (Event T)) (e : Event T) → added (xs ++ e ∷ []) ≡ added xs ++ added_by e ∷ []
  added_snoc [] e = refl
  added_snoc (x ∷ xs) e = ap (λ (l : List ℕ). added_by x ∷ l) (added_snoc xs e)

  pub added_length : (xs : List (Event T)) → length (added xs) ≡ length xs
  added_length [] = refl
  added_length (x ∷ xs) = ap suc (added_length xs)

  pub added_prefix : (xs : List (Event T)) (e : Event T) → IsPrefix (added xs) (added (xs ++ e ∷ []))
  added_prefix xs e = (added_by e ∷ [], sym (added_snoc xs e))

  pub written_by_length : (a : ℕ) (xs : List T) → length (written_by a xs) ≡ length xs
  written_by_length a [] = refl
  written_by_length a (x ∷ xs) = ap suc (written_by_length a xs)

  pub written_by_items : (a : ℕ) (xs : List T) → items_of (written_by a xs) ≡ xs
  written_by_items a [] = refl
  written_by_items a (x ∷ xs) = ap (λ (l : List T). x ∷ l) (written_by_items a xs)

  pub copied_length : (xs : List T) → length (copied xs) ≡ length xs
  copied_length xs = written_by_length 0 xs

  pub copied_items : (xs : List T) → items_of (copied xs) ≡ xs
  copied_items xs = written_by_items 0 xs

  pub items_append : (xs ys : List (Entry T)) → items_of (xs ++ ys) ≡ items_of xs ++ items_of ys
  items_append xs ys = map-append item_of xs ys

  pub items_length : (xs : List (Entry T)) → length (items_of xs) ≡ length xs
  items_length xs = length-map xs item_of

  added_entries : (e : Event T) → added_by e ≡ length (entries e)
  added_entries Acquired = refl
  added_entries (Published x) = refl
  added_entries Released = refl
  added_entries (OfferOf a n) = refl
  added_entries (Extended a xs) = sym (written_by_length a xs)
  added_entries (Cloned xs) = sym (copied_length xs)

  -- the number of entries of a history is the sum of the numbers that its events added
  added_all : (xs : List (Event T)) → total (added xs) ≡ length (list_of xs)
  added_all [] = refl
  added_all (e ∷ xs) = let h = added_all xs in let k = added_entries e in let l = length-append (entries e) (list_of xs) in omega (arith, h, k, l)

  pub added_list : (xs ys : List (Event T)) → added xs ≡ added ys → length (list_of xs) ≡ length (list_of ys)
  added_list xs ys e = let a = added_all xs in let b = added_all ys in let c = ap total e in omega (arith, a, b, c)

  pub added_same : (xs ys : List (Event T)) → added xs ≡ added ys → length xs ≡ length ys
  added_same xs ys e = let a = added_length xs in let b = added_length ys in let c = ap length e in omega arith

  -- a list of items with the items of a history as a prefix is that prefix and the rest
  pub behind_whole : (es : List (Event T)) (xs : List T) → IsPrefix (items_of (list_of es)) xs → items_of (list_of es) ++ behind es xs ≡ xs
  behind_whole es xs p =
      let rest : behind es xs ≡ p.0 = ap (drop (length (list_of es))) (sym p.1) ∙ drop_at (items_of (list_of es)) p.0 (length (list_of es)) (items_length (list_of es)) in
      ap (λ (l : List T). items_of (list_of es) ++ l) rest ∙ p.1

-- a beginning that is as long is the whole
pub prefix_whole : {A : Type 0} (xs ys : List A) → IsPrefix xs ys → length ys ≤ length xs → xs ≡ ys
prefix_whole [] [] p le = refl
prefix_whole [] (y ∷ ys) p le = absurd (omega arith)
prefix_whole (x ∷ xs) [] p le = absurd (cc (p.1))
prefix_whole (x ∷ xs) (y ∷ ys) p le =
    let rest = prefix_whole xs ys (p.0, cc (p.1)) (omega arith) in cc (p.1, rest)

module _ {T : Type 0} where
  pub list_append : (xs ys : List (Event T)) → list_of (xs ++ ys) ≡ list_of xs ++ list_of ys
  list_append [] ys = refl
  list_append (x ∷ xs) ys = ap (λ (l : List (Entry T)). entries x ++ l) (list_append xs ys) ∙ sym (append_assoc (entries x) (list_of xs) (list_of ys))

  pub list_prefix : (xs ys : List (Event T)) → IsPrefix xs ys → IsPrefix (list_of xs) (list_of ys)
  list_prefix xs ys p = (list_of p.0, sym (list_append xs p.0) ∙ ap list_of p.1)

  pub items_prefix : (xs ys : List (Entry T)) → IsPrefix xs ys → IsPrefix (items_of xs) (items_of ys)
  items_prefix xs ys p = (items_of p.0, sym (items_append xs p.0) ∙ ap items_of p.1)

  pub count_append : (a : ℕ) (xs ys : List (Entry T)) → count a (xs ++ ys) ≡ count a xs + count a ys
  count_append a [] ys = omega arith
  count_append a (x ∷ xs) ys = let h = count_append a xs ys in omega arith

  pub count_prefix : (a : ℕ) (xs ys : List (Event T)) → IsPrefix xs ys → count a (list_of xs) ≤ count a (list_of ys)
  count_prefix a xs ys p = let q = list_prefix xs ys p in let h = count_append a (list_of xs) q.0 in let e = ap (count a) q.1 in omega arith

-- of two beginnings of one list the shorter is one of the longer
pub prefix_of_longer : {A : Type 0} (xs ys zs : List A) → IsPrefix xs zs → IsPrefix ys zs → length xs ≤ length ys → IsPrefix xs ys
prefix_of_longer [] ys zs p q le = (ys, refl)
prefix_of_longer (x ∷ xs) [] zs p q le = absurd (omega arith)
prefix_of_longer (x ∷ xs) (y ∷ ys) [] p q le = absurd (cc (p.1))
prefix_of_longer (x ∷ xs) (y ∷ ys) (z ∷ zs) p q le =
    let rest = prefix_of_longer xs ys zs (p.0, cc (p.1)) (q.0, cc (q.1)) (omega arith) in (rest.0, cc (p.1, q.1, rest.1))
