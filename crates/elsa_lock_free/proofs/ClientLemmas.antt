-- What clients conclude from views of one vector: an item that was observed stays, merged views have the items of both,
-- and each item obeys a rule that is of the item alone.
use Rattle.std.proofs.Common.{◌≡◌, ◌∙◌, ◌<◌, ℕ, zero, suc, length, List, [], ◌∷◌, ◌++◌, Some, slice_get, take, refl, subst, sym, ap, arith}
use Rattle.std.specs.List.{Contains}
use Rattle.std.proofs.lemmas.List.Elements.{Contains-append_left}
use Rattle.std.proofs.lemmas.Option.{slice_get-get_or}
use mathlib.Core.List.{IsPrefix}
use Rattle.elsa_lock_free.specs.declared.event.Entry.{Entry}
use Rattle.elsa_lock_free.specs.SharedList.{Continues, Meet, View, entry, items_of}
use Rattle.elsa_lock_free.specs.Distinct.{EachItemIsNew}
use Rattle.elsa_lock_free.proofs.RuleLemmas.History.{items_prefix, items_length}

-- an index of a prefix has the same item in the whole list
same_before : {A : Type 0} (xs ys : List A) (i : ℕ) → i < length xs → slice_get (xs ++ ys) i ≡ slice_get xs i
same_before [] ys i low = absurd (omega arith)
same_before (x ∷ xs) ys zero low = refl
same_before (x ∷ xs) ys (suc i) low = same_before xs ys i (omega arith)

-- An item that a later view has at an index which an earlier view has observed was there before.
pub was_there : {T : Type 0} (xs ys : List (Entry T)) (i : ℕ) (x : T) → IsPrefix xs ys → i < length xs → slice_get (items_of ys) i ≡ Some x → slice_get (items_of xs) i ≡ Some x
was_there xs ys i x pre low at =
    let p = items_prefix xs ys pre in let l = items_length xs in
    sym (same_before (items_of xs) p.0 i (omega (arith, low, l))) ∙ (ap (λ (l : List _). slice_get l i) p.1 ∙ at)

-- An item that was observed is among those that are observed later.
pub still_there : {T : Type 0} (xs ys : List (Entry T)) (x : T) → IsPrefix xs ys → Contains (items_of xs) x → Contains (items_of ys) x
still_there xs ys x pre there =
    let p = items_prefix xs ys pre in
    subst (λ l. Contains l x) p.1 (Contains-append_left (items_of xs) p.0 x there)

-- Two views have merged, and the first one then states what was taken out: what the first one had observed is there.
pub left_is_there : {T : Type 0} (one one_after two two_after out : View T) (items : List T) (x : T) → Meet one one_after two two_after → Continues one_after out → items ≡ items_of out.seen → Contains (items_of one.seen) x → Contains items x
left_is_there one one_after two two_after out items x met later is there =
    subst (λ l. Contains l x) (sym is) (still_there one_after.seen out.seen x later.1 (still_there one.seen one_after.seen x met.0.0.1 there))

-- So is what the other one had observed.
pub right_is_there : {T : Type 0} (one one_after two two_after out : View T) (items : List T) (x : T) → Meet one one_after two two_after → Continues one_after out → items ≡ items_of out.seen → Contains (items_of two.seen) x → Contains items x
right_is_there one one_after two two_after out items x met later is there =
    subst (λ l. Contains l x) (sym is) (still_there one_after.seen out.seen x later.1 (still_there two.seen one_after.seen x met.4.0 there))

-- If a rule is of the item alone, each item of a list that obeys the rule has what the rule says.
pub each_obeys : {T : Type 0} (P : T → Type 0) (is_new : List (Entry T) → Entry T → Type 0) (es : List (Entry T)) (items : List T) → ((fs : List (Entry T)) (e : Entry T) → is_new fs e → P e.item) → items ≡ items_of es → EachItemIsNew is_new es → (x : T) → Contains items x → P x
each_obeys P is_new es items of_item is obeys x there =
    let found : Contains (items_of es) x = subst (λ l. Contains l x) is there in
    let at : slice_get (items_of es) found.0 ≡ Some x = slice_get-get_or (items_of es) found.0 x found.1 ∙ ap Some found.2 in
    let new = obeys found.0 x at in
    of_item (take found.0 es) (entry new.0 x) new.1
