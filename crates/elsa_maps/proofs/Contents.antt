-- Look-ups in a list of entries, and what pairs leave when they are collected.
use Rattle.std.proofs.Common.{◌≡◌, ◌↔◌, Bool, true, false, true≢false, cond, subst, is_some, Result, Ok, Err, IfOk, OnErr, List, [], ◌∷◌, ◌++◌, reverse, Option, None, Some, refl, sym, ap, ◌∙◌}
use Rattle.std.specs.Cmp.{IsEquivalence}
use Rattle.std.specs.HashMap.Eq.{lookup_congr}
use Rattle.std.specs.Map.{lookup, lookup_entry, lookup_key, update, update_all}
use Rattle.std.specs.Option.{option_map}
use Rattle.std.proofs.lemmas.List.{reverse-append}
use Rattle.std.proofs.lemmas.List.Sums.{fold-append}
use Rattle.elsa_maps.specs.FirstWins.{Adds, AddsNew, HoldsLast, Inserts, IsRefused, Keeps, SameAt, value_at}

-- the two, if both are there
abbrev pub both : {K B : Type 0} → Option K → Option B → Option (K × B)
both o None = None
both None (Some v) = None
both (Some k) (Some v) = Some (k, v)

-- the key and the value that are found belong to one entry
pub entry_found : {K B : Type 0} (test : K → Bool) (es : List (K × B)) → both (lookup_key test es) (lookup test es) ≡ lookup_entry test es
entry_found test [] = refl
entry_found test (e ∷ es) = by (test e.0) ∙ ap (cond (test e.0) (Some e)) (entry_found test es)
  where
    by : (b : Bool) → both (cond b (Some e.0) (lookup_key test es)) (cond b (Some e.1) (lookup test es)) ≡ cond b (Some e) (both (lookup_key test es) (lookup test es))
    by true = refl
    by false = refl

module _ {K V B T : Type 0} (eq : K → K → Bool) (laws : IsEquivalence eq) (target : V → T) (shown : B → T) where
  -- nothing is collected from no pairs
  pub holds_none : (es : List (K × B)) → es ≡ [] → HoldsLast eq target shown [] es
  holds_none es none q = ap (λ fs. option_map shown (lookup (eq q) fs)) none

  -- another pair
  pub holds_more : (pairs : List (K × V)) (es fs : List (K × B)) (k : K) (v : V) (b : B) → HoldsLast eq target shown pairs es
      → shown b ≡ target v → ((q : K) → value_at eq fs q ≡ cond (eq k q) (Some b) (value_at eq es q)) → HoldsLast eq target shown (pairs ++ (k, v) ∷ []) fs
  holds_more pairs es fs k v b held shows looks q =
      ap (option_map shown) (looks q) ∙ by (eq k q) ∙ ap (λ c. option_map target (cond c (Some v) (lookup (eq q) (reverse pairs)))) (laws.symm k q)
      ∙ sym (ap (λ ps. option_map target (lookup (eq q) ps)) (reverse-append pairs ((k, v) ∷ [])))
    where
      by : (c : Bool) → option_map shown (cond c (Some b) (lookup (eq q) es)) ≡ option_map target (cond c (Some v) (lookup (eq q) (reverse pairs)))
      by true = ap Some shows
      by false = held q

-- an accepted insertion into entries that have, at each key, what old has
pub inserts_alike : {K V B T : Type 0} (eq : K → K → Bool) (target : V → T) (shown : B → T) (old : K → Option B) (es fs : List (K × B)) (k : K) (v : V) (b : B) → SameAt old (value_at eq es)
    → ((x : B) → value_at eq es k ≡ Some x → fs ≡ es) → (value_at eq es k ≡ None → AddsNew eq target shown es k v b fs)
    → Inserts eq target shown old k v (value_at eq fs)
inserts_alike eq target shown old es fs k v b same unchanged adds = (
  (λ x had q. ap (λ gs. value_at eq gs q) (unchanged x (same k ∙ had)) ∙ same q),
  (λ none. (b, (adds (same k ∙ none)).0, (λ q. (((adds (same k ∙ none)).1 q).0, (λ other. ((adds (same k ∙ none)).1 q).1 other ∙ same q))))),
)

module _ {K B : Type 0} (eq : K → K → Bool) (laws : IsEquivalence eq) where
  -- what an insertion of a new key adds keeps every value
  adds_keeps : (es : List (K × B)) (new : K → Option B) (k : K) (v : B) → value_at eq es k ≡ None → Adds eq (value_at eq es) new k v → Keeps (value_at eq es) new
  adds_keeps es new k v none adds q x is = by (eq k q) refl
    where
      by : (t : Bool) → eq k q ≡ t → new q ≡ Some x
      by true same = absurd (true≢false (ap is_some (sym is ∙ sym (lookup_congr eq laws.congr es k q same) ∙ none)))
      by false other = (adds q).1 other ∙ is

  module _ {V T E : Type 0} (target : V → T) (shown : B → T) (es fs : List (K × B)) (k : K) (v : V) (result : Result (B × Bool) E) (present : (x : B) → value_at eq es k ≡ Some x → (result ≡ Ok (x, false)) × (fs ≡ es))
      (adds : value_at eq es k ≡ None → IfOk result (λ r. (r.1 ≡ true) × AddsNew eq target shown es k v r.0 fs)) where
    -- an insertion keeps every value
    pub insert_keeps : OnErr result (IsRefused eq es k fs) → Keeps (value_at eq es) (value_at eq fs)
    insert_keeps refused = by (value_at eq es k) refl result adds refused
      where
        by : (o : Option B) → value_at eq es k ≡ o → (r : Result (B × Bool) E) → (value_at eq es k ≡ None → IfOk r (λ a. (a.1 ≡ true) × AddsNew eq target shown es k v a.0 fs)) → OnErr r (IsRefused eq es k fs) → Keeps (value_at eq es) (value_at eq fs)
        by (Some x) is r h same q y had = ap (λ gs. value_at eq gs q) (present x is).1 ∙ had
        by None is (Ok a) h same q y had = adds_keeps es (value_at eq fs) k a.0 is (h is).1.1 q y had
        by None is (Err e) h same q y had = ap (λ gs. value_at eq gs q) same.0 ∙ had

    -- where it is accepted the flag says whether the key was new
    pub insert_flag : IfOk result (λ r. (r.1 ≡ true) ↔ (value_at eq es k ≡ None))
    insert_flag = by (value_at eq es k) refl result refl adds
      where
        by : (o : Option B) → value_at eq es k ≡ o → (r : Result (B × Bool) E) → result ≡ r → (value_at eq es k ≡ None → IfOk r (λ a. (a.1 ≡ true) × AddsNew eq target shown es k v a.0 fs)) → IfOk r (λ a. (a.1 ≡ true) ↔ (value_at eq es k ≡ None))
        by (Some x) is r same h =
            let P : Result (B × Bool) E → Type 0 = λ s. IfOk s (λ a. (a.1 ≡ true) ↔ (value_at eq es k ≡ None)) in
            subst P (sym (present x is).0 ∙ same) ((λ f. absurd (true≢false (sym f))), (λ none. absurd (true≢false (ap is_some (sym is ∙ none)))))
        by None is (Ok a) same h = ((λ f. is), (λ none. (h none).0))
        by None is (Err e) same h = tt

  -- another pair, under a key that equals its own
  pub copies_more : (pairs : List (K × B)) (es fs : List (K × B)) (k c : K) (v : B) → ((q : K) → value_at eq es q ≡ update_all eq (λ _. None) pairs q) → eq k c ≡ true
      → ((q : K) → value_at eq fs q ≡ cond (eq c q) (Some v) (value_at eq es q)) → (q : K) → value_at eq fs q ≡ update_all eq (λ _. None) (pairs ++ (k, v) ∷ []) q
  copies_more pairs es fs k c v held same looks q =
      looks q ∙ ap (λ b. cond b (Some v) (value_at eq es q)) (sym (laws.congr k c q same)) ∙ ap (cond (eq k q) (Some v)) (held q)
      ∙ sym (ap (λ f. f q) (fold-append (λ g p. update eq g p.0 (Some p.1)) (λ _. None) pairs ((k, v) ∷ [])))
