-- A table's clone that got, in the order of the entries, the values of its source.
use Rattle.std.proofs.Common.{◌≡◌, Bool, IsTrue, true, cond, subst, List, [], ◌∷◌, Some, refl, sym, ap, ◌∙◌}
use Rattle.std.specs.Cmp.{IsEquivalence}
use Rattle.std.specs.List.{AllZip}
use Rattle.std.specs.Map.{values_of}
use Rattle.std.specs.Map.Calls.{RetainsPairs}
use Rattle.elsa_maps.specs.FirstWins.{value_at}
use Rattle.elsa_tables.specs.Insertions.{IsCloneOf}

-- the key is a clone by C, and the value is the same
abbrev pub HasValueOf : {K B : Type 0} → (K → K → Type 0) → K × B → K × B → Type 0
HasValueOf C s t = C s.0 t.0 × (t.1 ≡ s.1)

-- a closure that keeps each entry of a clone, and gives it the next of the values that it has left
module _ {F K B : Type 0} (T : F → K → B → Bool → B → F → Type 0) (left : F → List B)
    (step : (f : F) (k : K) (v : B) (b : Bool) (w : B) (f' : F) → T f k v b w f' → (x : B) (xs : List B) → left f ≡ x ∷ xs → (b ≡ true) × (w ≡ x) × (left f' ≡ xs)) (C : K → K → Type 0) (D : B → B → Type 0) where
  pub gets_values : (f : F) (ss es kept : List (K × B)) → left f ≡ values_of ss → AllZip (λ p q. C p.0 q.0 × D p.1 q.1) ss es → RetainsPairs T f es kept → AllZip (HasValueOf C) ss kept
  gets_values f [] [] kept is clones ran = subst (λ ks. AllZip (HasValueOf C) [] ks) (sym ran) tt
  gets_values f (s ∷ ss) (e ∷ es) kept is clones ran =
      let a = step f e.0 e.1 ran.0 ran.1 ran.2 ran.4 s.1 (values_of ss) is in
      let rest = gets_values ran.2 ss es ran.3 a.2 clones.1 ran.5 in
      subst (λ ks. AllZip (HasValueOf C) (s ∷ ss) ks) (sym (ran.6 ∙ ap (λ b. cond b ((e.0, ran.1) ∷ ran.3) ran.3) a.0)) ((clones.0.0, a.1), rest)
  gets_values f ss es kept is clones ran = absurd clones

-- a clone is looked up where its source is
alike : {K : Type 0} (eq : K → K → Bool) (laws : IsEquivalence eq) (q k c : K) → eq k c ≡ true → eq q c ≡ eq q k
alike eq laws q k c same = laws.symm q c ∙ sym (laws.congr k c q same) ∙ laws.symm k q

module _ {K B : Type 0} (eq : K → K → Bool) (laws : IsEquivalence eq) (C : K → K → Type 0) (equal : (k c : K) → C k c → eq k c ≡ true) where
  -- a key has the same value in the clone
  pub same_at_clone : (ss ts : List (K × B)) → AllZip (HasValueOf C) ss ts → (q : K) → value_at eq ts q ≡ value_at eq ss q
  same_at_clone [] [] each q = refl
  same_at_clone (s ∷ ss) (t ∷ ts) each q = λ i. cond (alike eq laws q s.0 t.0 (equal s.0 t.0 each.0.0) i) (Some (each.0.1 i)) (same_at_clone ss ts each.1 q i)
  same_at_clone ss ts each q = absurd each

-- if each key equals its clone, the entries are clones in the order of their sources
module _ {K B : Type 0} (eq : K → K → Bool) (C : K → K → Type 0) (equal : (k c : K) → C k c → IsTrue (eq k c)) where
  pub cloned : (ss ts : List (K × B)) → AllZip (HasValueOf C) ss ts → IsCloneOf eq C ss ts
  cloned [] [] each = tt
  cloned (s ∷ ss) (t ∷ ts) each = ((each.0.0, equal s.0 t.0 each.0.0, each.0.1), cloned ss ts each.1)
  cloned ss ts each = absurd each
