-- What follows from the bracket of a search.
use Rattle.std.proofs.Common.{◌≡◌, ℕ, ◌-◌, ◌<◌, ◌≤◌, inl, inr, Bool, true, false, List, [], ◌∷◌, Option, Some, None, IfOk, IsSomeAnd, Ok, Err, Result, length, slice_get, get_or, arith, refl, sym, ap, subst, ◌∙◌}
use Rattle.std.proofs.lemmas.Bool.{false_from_ne_true}
use Rattle.std.proofs.lemmas.Option.{slice_get_within, get_or_from_slice_get}
use Rattle.std.specs.Fn.{AlwaysReturns, Mut, Called}
use Rattle.std.specs.List.Sorted.{IsBinarySearchResult, IsPartitionPoint, IsPartitionedBy, IsSearchInRange}
use Rattle.std.specs.Ordering.{ordering_index}
use Rattle.std.specs.declared.cmp.Ordering.{Ordering}
use Rattle.std.specs.declared.cmp.Ordering.TheVariants.{Less, Equal, Greater}
use Rattle.elsa_arena.specs.Search.{Call, MadeInTurn, Answered, IsBetween, Brackets, Searched, AnswersByItem, AnswersByIndex, Rises, Splits, Falls, Parts}

-- A property of the item at an index.
at_index : {B : Type 0} (P : B → Type 0) (items : List B) (i : ℕ) → IsSomeAnd (slice_get items i) P → (i < length items) × ((d : B) → P (get_or items i d))
at_index {B} P items i = by (slice_get items i) refl
  where
    by : (found : Option B) → slice_get items i ≡ found → IsSomeAnd found P → (i < length items) × ((d : B) → P (get_or items i d))
    by None at h = absurd h
    by (Some item) at h = (slice_get_within items i item at, (λ d. subst P (sym (get_or_from_slice_get items i item d at)) h))

-- If each call in a state that has I returns what P allows for its item, and leaves a state that
-- has I.
module _ {F B R : Type 0} (step : F → B → R → F → Type 0) (items : List B) (start : F) (I : F → Type 0) (P : B → R → Type 0) (begins : I start)
    (keeps : (f : F) (b : B) (r : R) (g : F) → step f b r g → I f → P b r × I g) where
  holds : (calls : List (Call R)) (end : F) → MadeInTurn step items start calls end → I end
  holds [] end e = subst I e begins
  holds (c ∷ cs) end (before, item, made, at, s) = (keeps before item c.answer end s (holds cs before made)).1

  -- P allows each result of the item at its index.
  pub answered_so : (calls : List (Call R)) (end : F) → MadeInTurn step items start calls end → (i : ℕ) (r : R) → Answered calls i r → IsSomeAnd (slice_get items i) (λ item. P item r)
  answered_so [] end made i r answered = absurd answered
  answered_so (c ∷ cs) end (before, item, made, at, s) i r (inl (index, answer)) =
      let here : P item c.answer = (keeps before item c.answer end s (holds cs before made)).0 in
      subst (λ o. IsSomeAnd o (λ x. P x r)) (sym at ∙ ap (slice_get items) index) (subst (λ a. P item a) answer here)
  answered_so (c ∷ cs) end (before, item, made, at, s) i r (inr earlier) = answered_so cs before made i r earlier

-- The results of a closure that its calls don't change.
pub said_by_item : {F B R : Type 0} (step : F → B → R → F → Type 0) (items : List B) (start : F) (o : B → R) → AnswersByItem step start o
    → (calls : List (Call R)) (end : F) → MadeInTurn step items start calls end → (i : ℕ) (r : R) → Answered calls i r → IsSomeAnd (slice_get items i) (λ item. o item ≡ r)
said_by_item step items start o by_item =
    answered_so step items start (λ f. f ≡ start) (λ b r. o b ≡ r) refl (λ f b r g s is. let h = by_item b r g (subst (λ p. step p b r g) is s) in (sym h.0, h.1))

-- The results of a closure that its calls may change.
pub said_by_index : {F B R : Type 0} (g : Mut F (B × Unit {0}) R) (items : List B) (start : F) (o : B → R) → AlwaysReturns g (λ a r. r ≡ o a.0) start
    → (calls : List (Call R)) (end : F) → MadeInTurn (λ p b r q. Called g p (b, tt) r q) items start calls end → (i : ℕ) (r : R) → Answered calls i r → IsSomeAnd (slice_get items i) (λ item. o item ≡ r)
said_by_index g items start o always =
    answered_so (λ p b r q. Called g p (b, tt) r q) items start (λ f. AlwaysReturns g (λ a r. r ≡ o a.0) f) (λ b r. o b ≡ r) always
    (λ f b r q s h. (sym (h.at ((b, tt) ∷ []) r q s).0, record { at = λ xs. (h.at ((b, tt) ∷ xs) r q s).1 }))

-- An index with a result has an item.
within : {F B R : Type 0} (step : F → B → R → F → Type 0) (items : List B) (start : F) (P : List (Call R) → Type 0) (found : Searched step items start P) (i : ℕ) (r : R) → Answered found.calls i r → i < length items
within step items start P found i r answered =
    (at_index (λ _. Unit {0}) items i (answered_so step items start (λ _. Unit {0}) (λ _ _. Unit {0}) tt (λ f b r g s h. (tt, tt)) found.calls found.end found.in_turn i r answered)).0

-- The bracket of a property that follows from the results.
pub bracket_of : {answered at : ℕ → Ordering → Type 0} (n : ℕ) (r : Result ℕ ℕ) → ((i : ℕ) (o : Ordering) → answered i o → at i o) → Brackets n answered r → Brackets n at r
bracket_of n (Ok i) so b = so i Equal b
bracket_of n (Err i) so b = (b.0, (λ p. so (i - 1) Less (b.1 p)), (λ p. so i Greater (b.2 p)))

lowest : (o : Ordering) → ordering_index o ≤ 0 → o ≡ Less
lowest Less h = refl
lowest Equal h = absurd (omega arith)
lowest Greater h = absurd (omega arith)

highest : (o : Ordering) → 2 ≤ ordering_index o → o ≡ Greater
highest Less h = absurd (omega arith)
highest Equal h = absurd (omega arith)
highest Greater h = refl

-- If each result at an index below n is that of `o`, the bracket determines every `o` that is in
-- order.
module _ {R : Type 0} (n : ℕ) (answered : ℕ → R → Type 0) (o : ℕ → R) (so : (i : ℕ) (r : R) → answered i r → (i < n) × (o i ≡ r)) where
  -- If `Before` holds at each index below one that returned `low`, and `Behind` at each index from
  -- one that returned `high` on, they meet at i.
  meets : (low high : R) (Before Behind : R → Type 0) (i : ℕ) → ((j k : ℕ) → k ≤ j → j < n → o j ≡ low → Before (o k)) → ((j k : ℕ) → j ≤ k → k < n → o j ≡ high → Behind (o k))
      → IsBetween n answered low high i → (i ≤ n) × ((k : ℕ) → k < i → Before (o k)) × ((k : ℕ) → i ≤ k → k < n → Behind (o k))
  meets low high Before Behind i down up between = (
    between.0,
    (λ k h. let last = so (i - 1) low (between.1 (omega arith)) in down (i - 1) k (omega arith) last.0 last.1),
    λ k h within. up i k h within (so i high (between.2 (omega arith))).1,
  )

splits_by : (n : ℕ) (answered : ℕ → Ordering → Type 0) (o : ℕ → Ordering) → ((i : ℕ) (r : Ordering) → answered i r → (i < n) × (o i ≡ r))
    → (r : Result ℕ ℕ) → Brackets n answered r → Rises n o → Splits n o r
splits_by n answered o so (Ok i) bracket rises = so i Equal bracket
splits_by n answered o so (Err i) bracket rises =
    meets n answered o so Less Greater (λ r. r ≡ Less) (λ r. r ≡ Greater) i
    (λ j k h within less. lowest (o k) (subst (λ a. ordering_index (o k) ≤ ordering_index a) less (rises k j h within)))
    (λ j k h within greater. highest (o k) (subst (λ a. ordering_index a ≤ ordering_index (o k)) greater (rises j k h within)))
    bracket

parts_by : (n : ℕ) (answered : ℕ → Bool → Type 0) (o : ℕ → Bool) → ((i : ℕ) (r : Bool) → answered i r → (i < n) × (o i ≡ r))
    → (i : ℕ) → IsBetween n answered true false i → Falls n o → Parts n o i
parts_by n answered o so i bracket falls =
    meets n answered o so true false (λ r. r ≡ true) (λ r. r ≡ false) i
    (λ j k h within yes. falls k j h within yes)
    (λ j k h within no. false_from_ne_true (o k) (λ e. let wrong : false ≡ true = sym no ∙ falls j k h within e in cc))
    bracket

-- Results that rise with the index are split at the index that the search returns.
pub splits : {F B : Type 0} (items : List B) (start : F) (step : F → B → Ordering → F → Type 0) (r : Result ℕ ℕ) (o : ℕ → Ordering)
    → Searched step items start (λ calls. Brackets (length items) (Answered calls) r) → AnswersByIndex step items start o → Rises (length items) o → Splits (length items) o r
splits items start step r o found by_index =
    splits_by (length items) (Answered found.calls) o (λ i a said. (within step items start _ found i a said, sym (by_index found.calls found.end i a found.in_turn said))) r found.bracket

-- Results that fall with the index are parted at the index that the search returns.
pub parts : {F B : Type 0} (items : List B) (start : F) (step : F → B → Bool → F → Type 0) (i : ℕ) (answer : ℕ → Bool)
    → Searched step items start (λ calls. IsBetween (length items) (Answered calls) true false i) → AnswersByIndex step items start answer → Falls (length items) answer → Parts (length items) answer i
parts items start step i answer found by_index =
    parts_by (length items) (Answered found.calls) answer (λ i a said. (within step items start _ found i a said, sym (by_index found.calls found.end i a found.in_turn said))) i found.bracket

-- ---- if the results depend only on the item

-- A bracket by the results of `o` for the items splits the list as a search of a slice does.
pub splits_list : {B : Type 0} (items : List B) (answered : ℕ → Ordering → Type 0) (o : B → Ordering) → ((i : ℕ) (r : Ordering) → answered i r → IsSomeAnd (slice_get items i) (λ item. o item ≡ r))
    → (r : Result ℕ ℕ) → Brackets (length items) answered r → IsBinarySearchResult o items r
splits_list items answered o so (Ok i) bracket = (at_index _ items i (so i Equal bracket)).1
splits_list {B} items answered o so (Err i) bracket =
    λ rises.
    let at = λ (d : B). splits_by (length items) answered (λ k. o (get_or items k d)) (λ j r said. let h = at_index _ items j (so j r said) in (h.0, h.1 d)) (Err i) bracket (λ j k up within. rises j k d up within) in
    ((λ k d low high. (at d).1 k high), λ k d low high. (at d).2 k low high)

-- An index between true and false parts the list as the partition of a slice does.
pub parts_list : {B : Type 0} (items : List B) (answered : ℕ → Bool → Type 0) (test : B → Bool) → ((i : ℕ) (r : Bool) → answered i r → IsSomeAnd (slice_get items i) (λ item. test item ≡ r))
    → (i : ℕ) → IsBetween (length items) answered true false i → IsPartitionedBy test items → IsPartitionPoint (λ b. test b ≡ true) (λ b. test b ≡ false) items i
parts_list {B} items answered test so i bracket =
    λ falls.
    let at = λ (d : B). parts_by (length items) answered (λ k. test (get_or items k d)) (λ j r said. let h = at_index _ items j (so j r said) in (h.0, h.1 d)) i bracket (λ j k up within. falls j k d up within) in
    ((λ k d low high. (at d).1 k high), λ k d low high. (at d).2 k low high)

-- ---- where the search ended

-- A search of n items ended within a range that is not shorter.
pub in_range : (answered : ℕ → Ordering → Type 0) (n m : ℕ) (r : Result ℕ ℕ) → n ≤ m → IfOk r (λ i. i < n) → Brackets n answered r → IsSearchInRange r m
in_range answered n m (Ok i) low ok bracket = omega (arith, low, ok)
in_range answered n m (Err i) low ok bracket = let within = bracket.0 in omega (arith, low, within)

-- An index with a result has an item.
pub within_list : {F B : Type 0} (step : F → B → Ordering → F → Type 0) (items : List B) (start : F) (r : Result ℕ ℕ) → Searched step items start (λ calls. Brackets (length items) (Answered calls) r)
    → IfOk r (λ i. i < length items)
within_list step items start (Ok i) found = within step items start _ found i Equal found.bracket
within_list step items start (Err i) found = tt
