-- Names that are put into an interner one after the other.
use Rattle.std.proofs.Common.{◌≡◌, ℕ, ◌+◌, ◌<◌, ◌≤◌, List, [], ◌∷◌, ◌++◌, add-one, drop, drop-cons, get_or, length, map, subst, suc, sym, ap, ◌∙◌, append_assoc, append-nil}
use Rattle.std.proofs.lemmas.List.{drop_all}
use Rattle.elsa_serde.specs.Loaded.{AddsName}
use Rattle.elsa_serde.specs.Read.{InTurn}

-- The texts that were put follow the earlier names.
pub names_after : (texts old new : List (List ℕ)) → InTurn AddsName old texts new → new ≡ old ++ texts
names_after [] old new went = went ∙ sym (append-nil old)
names_after (t ∷ ts) old new went = names_after ts went.0 new went.2 ∙ ap (λ names. names ++ ts) went.1.1 ∙ append_assoc old (t ∷ []) ts

-- In a list that is read by index, the item at the index is the next one.
pub next_item : {A B : Type 0} (f : A → B) (xs ys : List A) (i : ℕ) (x : A) → ys ≡ xs → i < length ys → x ≡ get_or ys i x → map f (drop i xs) ≡ f x ∷ map f (drop (i + 1) xs)
next_item f xs ys i x same within is =
    let lt : i < length xs = subst (λ zs. i < length zs) same within in
    let at : x ≡ get_or xs i x = subst (λ zs. x ≡ get_or zs i x) same is in
    rw (add-one, drop-cons xs i x lt) (ap (λ y. f y ∷ map f (drop (suc i) xs)) (sym at))

-- After the last item, none is left.
pub no_item : {A B : Type 0} (f : A → B) (xs ys : List A) (i : ℕ) → ys ≡ xs → length ys ≤ i → map f (drop i xs) ≡ []
no_item f xs ys i same past = ap (map f) (drop_all i xs (subst (λ zs. length zs ≤ i) same past))
