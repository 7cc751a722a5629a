-- Lemmas about iteration: what the entries show that a table's iterator returns, and the two ends
-- of an ordered table.
use Rattle.std.proofs.Common.{◌≡◌, ◌∙◌, ◌<◌, ◌↔◌, ℕ, ap, subst, refl, Bool, true, false, cond, List, [], ◌∷◌, length, map, Option, Some, None, IsSome, IfSome, MatchOption, Result, Ok, Err, IfOk, OnErr, slice_get, Bor, arith}
use Rattle.std.specs.Option.{option_map}
use Rattle.std.specs.BTreeMap.Range.{entries_between, range_contains}
use Rattle.std.specs.declared.cmp.Ordering.{Ordering}
use Rattle.std.specs.declared.ops.Bound.{Bound}
use Rattle.std.specs.declared.sync.Arc.{Arc}
use Rattle.std.specs.Arc.{arc_value}
use Rattle.std.specs.Fn.{Mut}
use Rattle.std.specs.Iterator.{Drains}
use Rattle.std.specs.Map.Iter.{TakesFirst, deref_pair}
use Rattle.std.proofs.lemmas.List.{length-map}
use Rattle.std.proofs.lemmas.Option.{slice_get-map}
use Rattle.std_collections.proofs.SetLists.{Drains-all}
use Rattle.elsa_locks.specs.Shared.{shown}
use Rattle.elsa_locks.specs.Walks.{VisitsAll, IsCopyOf}

-- What a reference to a key and a reference to an `Arc` show.
abbrev pub seen : {K V Z : Type 0} → Bor K × Bor (Arc V Z) → K × V
seen e = (e.0.now, arc_value e.1.now)

seen_shown : {K V Z : Type 0} (given : List (Bor K × Bor (Arc V Z))) → map seen given ≡ shown (map deref_pair given)
seen_shown [] = refl
seen_shown (e ∷ es) = λ i. (e.0.now, arc_value e.1.now) ∷ seen_shown es i

-- If a closure was called with each entry that an iterator returned, it was called with each entry
-- that the iterator had.
pub walked : {F K V Z : Type 0} (g : Mut F (Bor K × (Bor V × Unit {0})) (Unit {0})) (f : F) (left entries : List (K × Arc V Z)) (given : List (Bor K × Bor (Arc V Z)))
    → left ≡ entries → Drains (TakesFirst deref_pair) left given → VisitsAll g f (map seen given) → VisitsAll g f (shown entries)
walked g f left entries given same drains visits =
    subst (VisitsAll g f) (seen_shown given ∙ ap shown (Drains-all deref_pair left given drains ∙ same)) visits

-- A test of the key chooses the same entries of both lists.
chosen : {K V Z : Type 0} (b : Bool) (e : K × Arc V Z) (es : List (K × Arc V Z)) (rest : List (K × V)) → shown es ≡ rest → shown (cond b (e ∷ es) es) ≡ cond b ((e.0, arc_value e.1) ∷ rest) rest
chosen true e es rest h = λ i. (e.0, arc_value e.1) ∷ h i
chosen false e es rest h = h

-- The entries in a range show what is in the range of what all entries show.
pub between_shown : {K V Z : Type 0} (R : K → K → Ordering) (lo hi : Bound K) (es : List (K × Arc V Z)) → shown (entries_between R lo hi es) ≡ entries_between R lo hi (shown es)
between_shown R lo hi [] = refl
between_shown R lo hi (e ∷ es) = chosen (range_contains R lo hi e.0) e (entries_between R lo hi es) (entries_between R lo hi (shown es)) (between_shown R lo hi es)

none_left : {X Y : Type 0} (h : X → Y) (es : List X) {A : Type 0} (r : Option A) → (IsSome r ↔ (0 < length es)) → r ≡ None → map h es ≡ []
none_left h [] r f n = refl
none_left h (e ∷ es) {A = A} r f n = let gone : IsSome {T = A} None = subst IsSome n (f.1 (omega arith)) in cc

found_end : {K V Z : Type 0} (es : List (K × Arc V Z)) (at : ℕ) (r : Option (Bor K × Bor (Arc V Z))) → IfSome r (λ p. slice_get es at ≡ Some (p.0.now, p.1.now)) → (e : K × V) → option_map seen r ≡ Some e → slice_get (shown es) at ≡ Some e
found_end es at None h e is = cc
found_end es at (Some p) h e is = slice_get-map (λ e. (e.0, arc_value e.1)) es at ∙ ap (option_map (λ e. (e.0, arc_value e.1))) h ∙ is

-- A copy of the entry at an end is a copy of what is shown there.
pub copied_end : {K V Z E : Type 0} (is_clone : K → K → Type 0) (es : List (K × Arc V Z)) (at : ℕ) (r : Option (Bor K × Bor (Arc V Z))) (result : Result (Option (K × Arc V Z)) E)
    → (IsSome r ↔ (0 < length es)) → IfSome r (λ p. slice_get es at ≡ Some (p.0.now, p.1.now))
    → IfOk result (λ a. MatchOption a (r ≡ None) (IsCopyOf is_clone (option_map seen r)))
    → IfOk result (λ a. MatchOption a (shown es ≡ []) (IsCopyOf is_clone (slice_get (shown es) at)))
copied_end is_clone es at r (Err e) some found h = tt
copied_end is_clone es at r (Ok None) some found h = none_left _ es r some h
copied_end is_clone es at r (Ok (Some copy)) some found h = (h.0, found_end es at r found _ h.1, h.2)

-- If an entry was found, an entry is shown.
pub there : {K V Z E A : Type 0} (es : List (K × Arc V Z)) (r : Option A) (result : Result (Option (K × Arc V Z)) E) → (IsSome r ↔ (0 < length es)) → OnErr result (IsSome r) → OnErr result (0 < length (shown es))
there es r (Ok a) some h = tt
there es r (Err e) some h = rw length-map (some.0 h)
