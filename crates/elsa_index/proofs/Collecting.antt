-- The content of an index set after another value was inserted by `extend`.
use Rattle.std.proofs.Common.{Some, None, Option, MatchOption, ℕ, length, position, slice_get, get_or, All, map, ◌≡◌, Bool, true, false, if◌then◌else◌, List, [], ◌∷◌, ◌++◌, refl, sym, ap, subst, ◌∙◌, append_assoc, append-nil}
use Rattle.std.specs.Cmp.{IsEquivalence}
use Rattle.std.specs.List.{list_any}
use Rattle.std.proofs.lemmas.List.{map-append}
use Rattle.std.proofs.lemmas.List.Elements.{All-nil, All-push}
use Rattle.std.proofs.lemmas.List.Folds.{list_any_at}
use Rattle.std.proofs.lemmas.List.Quantifiers.{position-Some}
use Rattle.std.proofs.lemmas.Option.{get_or_from_slice_get}
use Rattle.elsa_tables.specs.Insertions.{first_of_each, Grows, SetInserted}
use Rattle.elsa_index.specs.Extended.{SetExtends}
use Rattle.elsa_maps.proofs.Indices.{none_passes}
use Rattle.elsa_tables.proofs.FirstOfEach.{first_of_each_push, same_any}

-- The stored values keep their indices.
pub set_extends_grows : {B V T : Type 0} (eq : B → B → Bool) (target : V → T) (shown : B → T) (finds : V → B → Bool) (old bs : List B) (xs : List V) → SetExtends eq target shown finds old xs bs → Grows old bs
set_extends_grows eq target shown finds old bs xs (ps, names, found, is, shows) = (map (λ p. p.1) (first_of_each eq (λ p. p.1) old ps), is)

module _ {B V T : Type 0} (eq : B → B → Bool) (laws : IsEquivalence eq) (target : V → T) (shown : B → T) (finds : V → B → Bool)
    (finds_target : (v : V) (b k : B) → shown b ≡ target v → finds v k ≡ eq b k) where
  -- No value.
  pub set_extends_none : (old bs : List B) → bs ≡ old → SetExtends eq target shown finds old [] bs
  set_extends_none old bs same = ([], refl, All-nil _, same ∙ sym (append-nil old), All-nil _)

  module _ (old : List B) where
    abbrev firsts : List (V × B) → List (V × B)
    firsts ps = first_of_each eq (λ p. p.1) old ps

    -- A value is stored exactly if it was, or if one of the given values found it.
    stored_any : (ps : List (V × B)) (bs : List B) (b : B) → bs ≡ old ++ map (λ p. p.1) (firsts ps) → list_any (eq b) (old ++ map (λ p. p.1) ps) ≡ list_any (eq b) bs
    stored_any ps bs b is = sym (same_any eq (λ (p : V × B). p.1) laws b old ps) ∙ ap (list_any (eq b)) (sym is)

    -- Another pair of a value and what it finds.
    push_first : (ps : List (V × B)) (x : V) (b : B) (c : Bool) → list_any (eq b) (old ++ map (λ p. p.1) ps) ≡ c → firsts (ps ++ (x, b) ∷ []) ≡ firsts ps ++ (if c then [] else (x, b) ∷ [])
    push_first ps x b c e = first_of_each_push eq (λ (p : V × B). p.1) old ps (x, b) ∙ ap (λ d. firsts ps ++ (if d then [] else (x, b) ∷ [])) e

    -- Another value.
    pub set_extends_push : (bs cs : List B) (xs : List V) (x : V) (i : ℕ) (b : B) → SetExtends eq target shown finds old xs bs → SetInserted target shown finds bs x i b cs → SetExtends eq target shown finds old (xs ++ x ∷ []) cs
    set_extends_push bs cs xs x i b (ps, names, found, is, shows) inserted = by (position (finds x) bs) refl inserted
      where
        Found : V × B → Type 0
        Found p = finds p.0 p.1 ≡ true

        Shows : V × B → Type 0
        Shows p = shown p.1 ≡ target p.0

        more : map (λ p. p.0) (ps ++ (x, b) ∷ []) ≡ xs ++ x ∷ []
        more = map-append (λ p. p.0) ps ((x, b) ∷ []) ∙ ap (λ l. l ++ x ∷ []) names

        by : (o : Option ℕ) → position (finds x) bs ≡ o → MatchOption o ((i ≡ length bs) × (shown b ≡ target x) × (cs ≡ bs ++ b ∷ [])) (λ j. (i ≡ j) × (slice_get bs i ≡ Some b) × (cs ≡ bs)) → SetExtends eq target shown finds old (xs ++ x ∷ []) cs
        by None at g =
            let none : list_any (eq b) bs ≡ false = ap (λ t. list_any t bs) (λ j k. sym (finds_target x b k g.1) j) ∙ none_passes (finds x) bs at in
            let gained = push_first ps x b false (stored_any ps bs b is ∙ none) in (
              ps ++ (x, b) ∷ [],
              more,
              All-push Found ps (x, b) found (finds_target x b b g.1 ∙ laws.refl b),
              g.2 ∙ ap (λ l. l ++ b ∷ []) is ∙ append_assoc old (map (λ p. p.1) (firsts ps)) (b ∷ [])
                  ∙ ap (λ l. old ++ l) (sym (map-append (λ (p : V × B). p.1) (firsts ps) ((x, b) ∷ [])) ∙ ap (map (λ p. p.1)) (sym gained)),
              subst (All Shows) (sym gained) (All-push Shows (firsts ps) (x, b) shows g.1),
            )
        by (Some j) at g =
            let p = position-Some (finds x) bs j b at in
            let here : get_or bs j b ≡ b = get_or_from_slice_get bs j b b (ap (slice_get bs) (sym g.0) ∙ g.1) in
            let some : list_any (eq b) bs ≡ true = list_any_at (eq b) bs j b p.0 (ap (eq b) here ∙ laws.refl b) in
            let same = push_first ps x b true (stored_any ps bs b is ∙ some) ∙ append-nil (firsts ps) in (
              ps ++ (x, b) ∷ [],
              more,
              All-push Found ps (x, b) found (ap (finds x) (sym here) ∙ p.1),
              g.2 ∙ is ∙ ap (λ l. old ++ map (λ p. p.1) l) (sym same),
              subst (All Shows) (sym same) shows,
            )
