-- What is found stays found: in a list that grows at its end, and for all items that a loop
-- visited.
use Rattle.std.proofs.Common.{◌≡◌, ℕ, arith, get_or, All, Bool, IsSome, List, [], ◌∷◌, ◌++◌, None, Option, Some, is_some, length, map, position, slice_get, refl, sym, ap, ◌∙◌, append_assoc}
use Rattle.std.specs.Map.{keys_of, lookup}
use Rattle.std.proofs.lemmas.Grind.{common_steps}
use Rattle.std.proofs.lemmas.List.{get_or_append_left, length-append, map-append}
use Rattle.std.proofs.lemmas.List.Elements.{All-map, All-push, All-same, All-weaker}
use Rattle.std.proofs.lemmas.List.Folds.{prefix_len-append}
use Rattle.std.proofs.lemmas.Option.{get_or_from_slice_get, slice_get_read, slice_get_within}
use Rattle.elsa_tables.specs.Insertions.{Grows}
use Rattle.elsa_tables.proofs.Entries.{found_first}

-- Growing is transitive.
pub grows_on : {X : Type 0} (xs ys zs : List X) → Grows xs ys → Grows ys zs → Grows xs zs
grows_on xs ys zs (one, is) (more, so) = (one ++ more, so ∙ ap (λ l. l ++ more) is ∙ append_assoc xs one more)

-- If the list of pairs grows, so does the list of its keys.
pub keys_grow : {K B : Type 0} (es fs : List (K × B)) → Grows es fs → Grows (keys_of es) (keys_of fs)
keys_grow es fs (more, is) = (keys_of more, ap keys_of is ∙ map-append (λ p. p.0) es more)

-- The index that a test finds is unchanged.
pub index_stays : {X : Type 0} (t : X → Bool) (xs ys : List X) (i : ℕ) → Grows xs ys → position t xs ≡ Some i → position t ys ≡ Some i
index_stays t xs ys i (more, is) at = ap (position t) is ∙ kept
  where
    kept : position t (xs ++ more) ≡ Some i
    kept = grind (arith, common_steps, prefix_len-append, length-append)

-- The value that a test finds is unchanged.
pub value_stays : {K B : Type 0} (t : K → Bool) (es fs : List (K × B)) (b : B) → Grows es fs → lookup t es ≡ Some b → lookup t fs ≡ Some b
value_stays t es fs b (more, is) there = ap (lookup t) is ∙ found_first t es more b there

-- The item at an index is unchanged.
pub item_stays : {X : Type 0} (xs ys : List X) (i : ℕ) (x : X) → Grows xs ys → slice_get xs i ≡ Some x → slice_get ys i ≡ Some x
item_stays xs ys i x (more, is) there =
    let within = slice_get_within xs i x there in
    let read : x ≡ get_or (xs ++ more) i x = sym (get_or_append_left xs more x i within ∙ get_or_from_slice_get xs i x x there) in
    ap (λ l. slice_get l i) is ∙ slice_get_read (xs ++ more) (length (xs ++ more)) i x refl (omega (arith, within, length-append xs more)) read

-- If everything that is found stays found, something is still found.
pub some_stays : {X : Type 0} (o p : Option X) → ((x : X) → o ≡ Some x → p ≡ Some x) → IsSome o → IsSome p
some_stays None p stays is = cc
some_stays (Some x) p stays is = ap is_some (stays x refl)

-- A property of each item of a list, which stays true.
module _ {Y : Type 0} (P Q : Y → Type 0) (stays : (y : Y) → P y → Q y) (ys : List Y) (each : All P ys) where
  -- It is true after another item is appended.
  pub all_more : (y : Y) → Q y → All Q (ys ++ y ∷ [])
  all_more y now = All-push Q ys y (All-weaker P Q stays ys each) now

  -- It is true for the list that a loop visited.
  pub all_of : (whole : List Y) → map (λ y. y) ys ≡ whole → All Q whole
  all_of whole is = All-same Q whole (map (λ y. y) ys) (sym is) (All-map Q (λ y. y) ys (All-weaker P Q stays ys each))

-- Each of the values is found in the list.
abbrev pub AreFound : {X Y : Type 0} → (Y → X → Bool) → List X → List Y → Type 0
AreFound finds xs values = All (λ v. IsSome (position (finds v) xs)) values

module _ {X Y : Type 0} (finds : Y → X → Bool) (xs ys : List X) (grown : Grows xs ys) (values : List Y) (found : AreFound finds xs values) where
  still : (v : Y) → IsSome (position (finds v) xs) → IsSome (position (finds v) ys)
  still v = some_stays _ _ (λ i at. index_stays (finds v) xs ys i grown at)

  -- The values are found in a list that grew, and so is another value that is found there.
  pub found_more : (v : Y) (i : ℕ) → position (finds v) ys ≡ Some i → AreFound finds ys (values ++ v ∷ [])
  found_more v i at = all_more (λ w. IsSome (position (finds w) xs)) (λ w. IsSome (position (finds w) ys)) still values found v (ap is_some at)

  -- They are found for the list that a loop visited.
  pub found_all : (whole : List Y) → map (λ v. v) values ≡ whole → AreFound finds ys whole
  found_all whole is = all_of (λ w. IsSome (position (finds w) xs)) (λ w. IsSome (position (finds w) ys)) still values found whole is
