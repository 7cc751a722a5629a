-- The content of an empty collection after the items of another one were put into it.
use Rattle.std.proofs.Common.{◌≡◌, ◌≢◌, ℕ, ◌+◌, Bool, true, false, true≢false, cond, List, [], ◌∷◌, ◌++◌, Option, Some, None, Result, Ok, Err, OnOk, is_ok, is_some, length, map, refl, subst, sym, ap, ap₂, ◌∙◌, append_assoc, append-nil, arith}
use Rattle.std.specs.Cmp.{IsEquivalence}
use Rattle.std.specs.List.{AllByRecursion, IsDistinct}
use Rattle.std.specs.Map.{keys_of}
use Rattle.std.specs.Option.{option_map}
use Rattle.std.proofs.lemmas.List.{map_push}
use Rattle.elsa_maps.specs.FirstWins.{value_at}
use Rattle.elsa_vec.specs.Vec.{GainsAll}
use Rattle.elsa_serde.specs.Read.{InTurn}
use Rattle.elsa_serde.specs.Back.{AddsLast, Pairwise, ShowsSame, ShowsSameInOrder}
use Rattle.elsa_serde.specs.Loaded.{AddsPair, AddsValue}

-- ---- lists

-- Values that have the targets of the borrows, in order.
pub targets_back : {V B T : Type 0} (target : V → T) (shown : B → T) (xs : List V) (bs : List B) → Pairwise (λ x b. target x ≡ shown b) xs bs → map target xs ≡ map shown bs
targets_back target shown [] [] same = refl
targets_back target shown [] (b ∷ bs) same = absurd same
targets_back target shown (x ∷ xs) [] same = absurd same
targets_back target shown (x ∷ xs) (b ∷ bs) same = ap₂ (λ t ts. t ∷ ts) same.0 (targets_back target shown xs bs same.1)

-- A set after these values were inserted, each as a new one, shows their targets at its end.
pub set_targets : {V B T : Type 0} (target : V → T) (shown : B → T) (finds : V → B → Bool) (xs : List V) (old new : List B) → InTurn (AddsValue target shown finds) old xs new → map shown new ≡ map shown old ++ map target xs
set_targets target shown finds [] old new went = ap (map shown) went ∙ sym (append-nil (map shown old))
set_targets target shown finds (x ∷ xs) old new went =
    let step = went.1 in
    set_targets target shown finds xs went.0 new went.2
    ∙ ap (λ ts. ts ++ map target xs) (ap (map shown) step.3 ∙ map_push shown old step.0 ∙ ap (λ t. map shown old ++ t ∷ []) step.2)
    ∙ append_assoc (map shown old) (target x ∷ []) (map target xs)

-- ---- maps

-- No entry of the list has a key that equals q, if one whose key differs from all others does.
none_there : {K B : Type 0} {same : K → K → Bool} → IsEquivalence same → (k q : K) → same q k ≡ true → (es : List (K × B)) → AllByRecursion (λ y. same k y ≡ false) (keys_of es) → value_at same es q ≡ None
none_there laws k q is [] apart = refl
none_there {same = same} laws k q is (e ∷ es) apart = ap (λ t. cond t (Some e.1) (value_at same es q)) (laws.congr q k e.0 is ∙ apart.0) ∙ none_there laws k q is es apart.1

some_is_some : {B : Type 0} (b : B) → Some b ≡ None → ⊥
some_is_some b h = true≢false (ap is_some h)

module _ {K V B T : Type 0} (same : K → K → Bool) (laws : IsEquivalence same) (target : V → T) (shown : B → T) (extends : List (K × B) → K → B → List (K × B) → Type 0) where
  -- An entry that was read has the key of one that was written, and the target of its value.
  abbrev pub SameEntry : K × V → K × B → Type 0
  SameEntry p e = (same e.0 p.0 ≡ true) × (target p.1 ≡ shown e.1)

  -- At q, the new entries show what `es` has there, or are unchanged if it has nothing.
  abbrev Holds : List (K × B) → List (K × B) → List (K × B) → K → Type 0
  Holds es old new q =
      ((b : B) → value_at same es q ≡ Some b → option_map shown (value_at same new q) ≡ Some (shown b))
      × (value_at same es q ≡ None → value_at same new q ≡ value_at same old q)

  holds_more : (p : K × V) (e : K × B) (es old mid new : List (K × B)) (q : K) (t : Bool) → same q e.0 ≡ t → AllByRecursion (λ y. same e.0 y ≡ false) (keys_of es) → SameEntry p e → AddsPair same target shown extends old p mid
      → Holds es mid new q → Holds (e ∷ es) old new q
  holds_more p e es old mid new q true is apart is_same step before =
      let at_key : same p.0 q ≡ true = sym (laws.congr e.0 p.0 q is_same.0) ∙ laws.symm e.0 q ∙ is in
      let added : value_at same new q ≡ Some step.0 = before.1 (none_there laws e.0 q is es apart) ∙ (step.2.1 q).0 at_key in
      let first : Some e.1 ≡ value_at same (e ∷ es) q = ap (λ u. cond u (Some e.1) (value_at same es q)) (sym is) in (
        λ b h. ap (option_map shown) added ∙ ap Some (step.2.0 ∙ is_same.1) ∙ ap (option_map shown) (first ∙ h),
        λ h. absurd (some_is_some e.1 (first ∙ h)),
      )
  holds_more p e es old mid new q false is apart is_same step before =
      let off_key : same p.0 q ≡ false = sym (laws.congr e.0 p.0 q is_same.0) ∙ laws.symm e.0 q ∙ is in
      let rest : value_at same es q ≡ value_at same (e ∷ es) q = ap (λ u. cond u (Some e.1) (value_at same es q)) (sym is) in
      (λ b h. before.0 b (rest ∙ h), λ h. before.1 (rest ∙ h) ∙ (step.2.1 q).1 off_key)

  holds : (ps : List (K × V)) (es old new : List (K × B)) → IsDistinct same (keys_of es) → Pairwise SameEntry ps es → InTurn (AddsPair same target shown extends) old ps new → (q : K) → Holds es old new q
  unfolding IsDistinct
  holds [] [] old new distinct are_same went q = (λ b h. absurd (some_is_some b (sym h)), λ h. ap (λ m. value_at same m q) went)
  holds [] (e ∷ es) old new distinct are_same went q = absurd are_same
  holds (p ∷ ps) [] old new distinct are_same went q = absurd are_same
  holds (p ∷ ps) (e ∷ es) old new distinct are_same went q =
      holds_more p e es old went.0 new q (same q e.0) refl distinct.0 are_same.0 went.1 (holds ps es went.0 new distinct.1 are_same.1 went.2 q)

  grew : (ps : List (K × V)) (es old new : List (K × B)) → Pairwise SameEntry ps es → InTurn (AddsPair same target shown extends) old ps new → length new ≡ length old + length es
  grew [] [] old new are_same went = let h = ap length went in omega (arith, h)
  grew [] (e ∷ es) old new are_same went = absurd are_same
  grew (p ∷ ps) [] old new are_same went = absurd are_same
  grew (p ∷ ps) (e ∷ es) old new are_same went =
      let more = grew ps es went.0 new are_same.1 went.2 in
      let one = went.1.2.2 in
      omega (arith, more, one)

  shows : (es new : List (K × B)) (q : K) (o : Option B) → value_at same es q ≡ o → Holds es [] new q → option_map shown (value_at same new q) ≡ option_map shown (value_at same es q)
  shows es new q None is held = ap (option_map shown) (held.1 is) ∙ ap (option_map shown) (sym is)
  shows es new q (Some b) is held = held.0 b is ∙ ap (option_map shown) (sym is)

  -- An empty map into which the entries of another one were inserted shows the same.
  pub content_back : (ps : List (K × V)) (es old new : List (K × B)) → old ≡ [] → IsDistinct same (keys_of es) → Pairwise SameEntry ps es → InTurn (AddsPair same target shown extends) old ps new → ShowsSame same shown es new
  content_back ps es old new empty distinct are_same went =
      let from_none = subst (λ start. InTurn (AddsPair same target shown extends) start ps new) empty went in (
        let h = grew ps es [] new are_same from_none in omega (arith, h),
        λ q. shows es new q (value_at same es q) refl (holds ps es [] new distinct are_same from_none q),
      )

-- A map that keeps the order of its insertions has the entries in the order of the other one.
module _ {K V B T : Type 0} (same : K → K → Bool) (target : V → T) (shown : B → T) (extends : List (K × B) → K → B → List (K × B) → Type 0) (last : AddsLast extends) where
  appended : (ps : List (K × V)) (es old new : List (K × B)) → Pairwise (λ p e. (same e.0 p.0 ≡ true) × (target p.1 ≡ shown e.1)) ps es → InTurn (AddsPair same target shown extends) old ps new
      → (added : List (K × B)) × (new ≡ old ++ added) × ShowsSameInOrder same shown es added
  appended [] [] old new are_same went = ([], went ∙ sym (append-nil old), tt)
  appended [] (e ∷ es) old new are_same went = absurd are_same
  appended (p ∷ ps) [] old new are_same went = absurd are_same
  appended (p ∷ ps) (e ∷ es) old new are_same went =
      let more = appended ps es went.0 new are_same.1 went.2 in
      let entry : K × B = (p.0, went.1.0) in (
        entry ∷ more.0,
        more.1 ∙ ap (λ m. m ++ more.0) (last old p.0 went.1.0 went.0 went.1.3) ∙ append_assoc old (entry ∷ []) more.0,
        ((are_same.0.0, went.1.2.0 ∙ are_same.0.1), more.2),
      )

  pub order_back : (ps : List (K × V)) (es old new : List (K × B)) → old ≡ [] → Pairwise (λ p e. (same e.0 p.0 ≡ true) × (target p.1 ≡ shown e.1)) ps es → InTurn (AddsPair same target shown extends) old ps new → ShowsSameInOrder same shown es new
  order_back ps es old new empty are_same went =
      let added = appended ps es [] new are_same (subst (λ start. InTurn (AddsPair same target shown extends) start ps new) empty went) in
      subst (λ m. ShowsSameInOrder same shown es m) (sym added.1) added.2

-- ---- what an insertion ensures where it succeeded

pub at_success : {T E : Type 0} (r : Result T E) (P : Type 0) (said : Bool) → said ≡ is_ok r → said ≡ true → OnOk r P → P
at_success (Ok x) P said is holds h = h
at_success (Err e) P said is holds h = absurd (true≢false (sym holds ∙ is))

-- An empty vector that gained these items shows their targets.
pub gained : {V B T : Type 0} (target : V → T) (shown : B → T) (xs : List V) (old new : List B) → old ≡ [] → GainsAll target shown old xs new → map shown new ≡ map target xs
gained target shown xs old new none gains = ap (map shown) (gains.2 ∙ ap (λ bs. bs ++ gains.0) none) ∙ gains.1

-- An empty set in which these values were inserted shows their targets.
pub set_gained : {V B T : Type 0} (target : V → T) (shown : B → T) (finds : V → B → Bool) (xs : List V) (old new : List B) → old ≡ [] → InTurn (AddsValue target shown finds) old xs new → map shown new ≡ map target xs
set_gained target shown finds xs old new none went = set_targets target shown finds xs old new went ∙ ap (λ bs. map shown bs ++ map target xs) none

-- Lists of equal items are equal.
pub same_items : {X : Type 0} (xs ys : List X) → Pairwise (λ x y. x ≡ y) xs ys → xs ≡ ys
same_items [] [] same = refl
same_items [] (y ∷ ys) same = absurd same
same_items (x ∷ xs) [] same = absurd same
same_items (x ∷ xs) (y ∷ ys) same = ap₂ (λ a b. a ∷ b) same.0 (same_items xs ys same.1)
