-- What a map has after pairs were inserted in their order.
use Rattle.std.proofs.Common.{◌≡◌, ℕ, Bool, true, false, true≢false, is_some, Option, None, Some, MatchOption, List, [], ◌∷◌, ◌++◌, map, position, if◌then◌else◌, refl, sym, ap, subst, ◌∙◌, append_assoc, append-nil}
use Rattle.std.specs.Cmp.{IsEquivalence}
use Rattle.std.specs.HashMap.Eq.{lookup_congr}
use Rattle.std.specs.List.{AllZip, list_any}
use Rattle.std.specs.Map.{keys_of, lookup}
use Rattle.std.specs.Option.{option_map}
use Rattle.std.proofs.lemmas.List.{map-append}
use Rattle.std.proofs.lemmas.Slice.Zip.{all_zipped_more}
use Rattle.indexmap.proofs.MapLemmas.{some_index}
use Rattle.elsa_tables.specs.Insertions.{first_of_each}
use Rattle.elsa_tables.proofs.Entries.{found_first, found_last, passed_over}
use Rattle.elsa_tables.proofs.FirstOfEach.{first_of_each_push, same_any}
use Rattle.elsa_maps.specs.FirstWins.{AddsNew, AppendsFirsts, HoldsFirst, Keeps, SameAt, value_at}
use Rattle.elsa_maps.proofs.Indices.{no_index, none_of, none_passes, some_passes}

-- nothing is shown of a value that is not there
shows_none : {B T : Type 0} (shown : B → T) (o : Option B) → option_map shown o ≡ None → o ≡ None
shows_none shown None h = refl
shows_none shown (Some b) h = absurd (true≢false (ap is_some h))

-- a key with a value is among the keys
has_key : {K B : Type 0} (eq : K → K → Bool) (es : List (K × B)) (k : K) (x : B) → value_at eq es k ≡ Some x → list_any (eq k) (keys_of es) ≡ true
has_key eq es k x is = by (position (eq k) (keys_of es)) refl
  where
    by : (o : Option ℕ) → position (eq k) (keys_of es) ≡ o → list_any (eq k) (keys_of es) ≡ true
    by (Some j) at = some_passes (eq k) (keys_of es) j at
    by None at = absurd (true≢false (sym (some_index (eq k) es ∙ ap is_some is) ∙ ap is_some at))

module _ {K V B T : Type 0} (eq : K → K → Bool) (target : V → T) (shown : B → T) where
  -- no pair leaves the map as it was
  pub holds_first_none : (es : List (K × B)) → HoldsFirst eq target shown es [] es
  holds_first_none es q = by (value_at eq es q)
    where
      by : (o : Option B) → MatchOption o (option_map shown o ≡ None) (λ x. o ≡ Some x)
      by None = refl
      by (Some x) = refl

  pub appends_none : (es : List (K × B)) → AppendsFirsts eq target shown es [] es
  appends_none es = ([], tt, sym (append-nil es))

  -- each key keeps the value that it has
  pub holds_first_keeps : (old new : List (K × B)) (pairs : List (K × V)) → HoldsFirst eq target shown old pairs new → Keeps (value_at eq old) (value_at eq new)
  holds_first_keeps old new pairs held q x is =
      subst (λ o. MatchOption o (option_map shown (value_at eq new q) ≡ option_map target (value_at eq pairs q)) (λ y. value_at eq new q ≡ Some y)) is (held q)

  -- what is inserted into another table of the same content
  pub holds_first_from : (old es new : List (K × B)) (pairs : List (K × V)) → SameAt (value_at eq old) (value_at eq es) → HoldsFirst eq target shown es pairs new → HoldsFirst eq target shown old pairs new
  holds_first_from old es new pairs same held q =
      subst (λ o. MatchOption o (option_map shown (value_at eq new q) ≡ option_map target (value_at eq pairs q)) (λ y. value_at eq new q ≡ Some y)) (same q) (held q)

  module _ (laws : IsEquivalence eq) (old es fs : List (K × B)) (pairs : List (K × V)) (k : K) (v : V) (stays : (x : B) → value_at eq es k ≡ Some x → fs ≡ es) where
    -- another pair
    pub holds_first_more : HoldsFirst eq target shown old pairs es → (value_at eq es k ≡ None → (b : B) × AddsNew eq target shown es k v b fs) → HoldsFirst eq target shown old (pairs ++ (k, v) ∷ []) fs
    holds_first_more held adds q = by (value_at eq old q) (held q)
      where
        at_q : eq k q ≡ true → value_at eq es q ≡ value_at eq es k
        at_q same = sym (lookup_congr eq laws.congr es k q same)

        -- the first pair of q, if q has no value yet
        first : option_map shown (value_at eq es q) ≡ option_map target (value_at eq pairs q) → (o : Option V) → value_at eq pairs q ≡ o → (c : Option B) → value_at eq es k ≡ c → (t : Bool) → eq k q ≡ t
            → option_map shown (value_at eq fs q) ≡ option_map target (value_at eq (pairs ++ (k, v) ∷ []) q)
        first h (Some w) has (Some x) is t e =
            ap (λ gs. option_map shown (value_at eq gs q)) (stays x is) ∙ h ∙ ap (option_map target) (has ∙ sym (found_first (eq q) pairs ((k, v) ∷ []) w has))
        first h (Some w) has None is true e = absurd (true≢false (sym (ap is_some (ap (option_map target) has)) ∙ ap is_some (sym h ∙ ap (option_map shown) (at_q e ∙ is))))
        first h (Some w) has None is false e =
            ap (option_map shown) (((adds is).1.1 q).1 e) ∙ h ∙ ap (option_map target) (has ∙ sym (found_first (eq q) pairs ((k, v) ∷ []) w has))
        first h None has (Some x) is true e =
            absurd (true≢false (sym (ap is_some (at_q e ∙ is)) ∙ ap is_some (shows_none shown (value_at eq es q) (h ∙ ap (option_map target) has))))
        first h None has (Some x) is false e =
            ap (λ gs. option_map shown (value_at eq gs q)) (stays x is) ∙ h ∙ ap (option_map target) (sym (passed_over (eq q) pairs k v (laws.symm q k ∙ e)))
        first h None has None is true e =
            ap (option_map shown) (((adds is).1.1 q).0 e) ∙ ap Some (adds is).1.0 ∙ ap (option_map target) (sym (found_last (eq q) pairs k v has (laws.symm q k ∙ e)))
        first h None has None is false e =
            ap (option_map shown) (((adds is).1.1 q).1 e) ∙ h ∙ ap (option_map target) (sym (passed_over (eq q) pairs k v (laws.symm q k ∙ e)))

        -- q keeps its value
        keeps : (x : B) → value_at eq es q ≡ Some x → (c : Option B) → value_at eq es k ≡ c → (t : Bool) → eq k q ≡ t → value_at eq fs q ≡ Some x
        keeps x had (Some y) is t e = ap (λ gs. value_at eq gs q) (stays y is) ∙ had
        keeps x had None is true e = absurd (true≢false (sym (ap is_some had) ∙ ap is_some (at_q e ∙ is)))
        keeps x had None is false e = ((adds is).1.1 q).1 e ∙ had

        by : (o : Option B) → MatchOption o (option_map shown (value_at eq es q) ≡ option_map target (value_at eq pairs q)) (λ x. value_at eq es q ≡ Some x)
            → MatchOption o (option_map shown (value_at eq fs q) ≡ option_map target (value_at eq (pairs ++ (k, v) ∷ []) q)) (λ x. value_at eq fs q ≡ Some x)
        by None h = first h (value_at eq pairs q) refl (value_at eq es k) refl (eq k q) refl
        by (Some x) h = keeps x h (value_at eq es k) refl (eq k q) refl

    abbrev Related : K × V → K × B → Type 0
    Related x p = (p.0 ≡ x.0) × (shown p.1 ≡ target x.1)

    same_keys : (xs : List (K × V)) (ps : List (K × B)) → AllZip Related xs ps → keys_of ps ≡ map (λ x. x.0) xs
    same_keys [] [] zipped = refl
    same_keys [] (p ∷ ps) zipped = absurd zipped
    same_keys (x ∷ xs) [] zipped = absurd zipped
    same_keys (x ∷ xs) (p ∷ ps) zipped = λ i. zipped.0.0 i ∷ same_keys xs ps zipped.1 i

    -- another pair, if a new entry is the last one
    pub appends_more : AppendsFirsts eq target shown old pairs es → (value_at eq es k ≡ None → (b : B) × (shown b ≡ target v) × (fs ≡ es ++ (k, b) ∷ [])) → AppendsFirsts eq target shown old (pairs ++ (k, v) ∷ []) fs
    appends_more (added, zipped, is) adds = by (value_at eq es k) refl
      where
        key : K × V → K
        key x = x.0

        firsts : List (K × V)
        firsts = first_of_each eq key (keys_of old) pairs

        seen : list_any (eq k) (keys_of old ++ map key pairs) ≡ list_any (eq k) (keys_of es)
        seen = sym (same_any eq key laws k (keys_of old) pairs) ∙ ap (λ l. list_any (eq k) (keys_of old ++ l)) (sym (same_keys firsts added zipped))
            ∙ sym (ap (list_any (eq k)) (ap keys_of is ∙ map-append (λ p. p.0) old added))

        pushed : (c : Bool) → list_any (eq k) (keys_of es) ≡ c → first_of_each eq key (keys_of old) (pairs ++ (k, v) ∷ []) ≡ firsts ++ (if c then [] else (k, v) ∷ [])
        pushed c e = first_of_each_push eq key (keys_of old) pairs (k, v) ∙ ap (λ d. firsts ++ (if d then [] else (k, v) ∷ [])) (seen ∙ e)

        by : (o : Option B) → value_at eq es k ≡ o → AppendsFirsts eq target shown old (pairs ++ (k, v) ∷ []) fs
        by (Some x) at = (
          added,
          subst (λ l. AllZip Related l added) (sym (pushed true (has_key eq es k x at) ∙ append-nil firsts)) zipped,
          stays x at ∙ is,
        )
        by None at =
            let (b, shows, last) = adds at in (
              added ++ (k, b) ∷ [],
              subst (λ l. AllZip Related l (added ++ (k, b) ∷ [])) (sym (pushed false (none_passes (eq k) (keys_of es) (no_index eq es k at)))) (all_zipped_more Related firsts added (k, v) (k, b) zipped (refl, shows)),
              last ∙ ap (λ l. l ++ (k, b) ∷ []) is ∙ append_assoc old added ((k, b) ∷ []),
            )
