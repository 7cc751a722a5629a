-- Equality of maps as partial functions (`same_values` of FirstWins) is an equivalence, and is the
-- result of std's `==`.
use Rattle.std.proofs.Common.{◌≡◌, ◌↔◌, ℕ, Bool, true, false, true≢false, cond, ◌&&◌, List, [], ◌∷◌, None, Some, refl, sym, ap, ◌∙◌}
use Rattle.std.specs.Cmp.{IsEquivalence, IsPartialEquivalence, IsTotalOrder, both_ways, equiv, eq_by_cmp_equiv, first_so, second_so}
use Rattle.std.specs.Cmp.Lexicographic.{pointwise}
use Rattle.std.specs.HashMap.{HashMap, hash_map_eq}
use Rattle.std.specs.HashMap.Eq.{get_from_hash_map_eq, hash_map_eq_from_get, hash_map_eq_refl, hash_map_eq_symm, hash_map_eq_trans}
use Rattle.std_collections.specs.Layout.HashMap.{hash_map}
use Rattle.std.specs.List.Sorted.{IsStrictlySortedBy}
use Rattle.std.specs.Map.{keys_of, lookup}
use Rattle.std.specs.Option.{option_eq}
use Rattle.std.specs.Ordering.{eq_by_cmp, is_eq, ordering_reverse}
use Rattle.std.specs.declared.cmp.Ordering.{Ordering}
use Rattle.std.specs.declared.cmp.Ordering.TheVariants.{Less, Equal, Greater}
use Rattle.std.proofs.lemmas.Map.{lookup-none}
use Rattle.std.proofs.lemmas.Map.Entries.{none_below_head, none_past_head}
use Rattle.std.proofs.lemmas.Map.Keys.{IsDistinct-from_sorted, sorted_tail}
use Rattle.elsa_tables.specs.FirstWins.{IsEqualMap, same_values, value_at}

module _ {K B : Type 0} (eq : K → K → Bool) (E : B → B → Bool) where
  -- Whether both maps have equal values at q, or none.
  abbrev agree_at : List (K × B) → List (K × B) → K → Bool
  agree_at es fs q = option_eq E (value_at eq es q) (value_at eq fs q)

  -- A std hash map with these entries, for std's lemmas.
  abbrev table : List (K × B) → HashMap K B ℕ
  table es = hash_map es 0 0

  -- Maps that are equal as partial functions pass the test `same_values`.
  pub same_from_each : (es fs : List (K × B)) → IsEqualMap eq E es fs → same_values eq E es fs ≡ true
  same_from_each es fs each = hash_map_eq_from_get eq E (table es) (table fs) each

  module _ (laws : IsEquivalence eq) where
    -- Maps that pass the test are equal as partial functions.
    pub each_from_same : (es fs : List (K × B)) → same_values eq E es fs ≡ true → IsEqualMap eq E es fs
    each_from_same es fs same q = get_from_hash_map_eq eq E laws (table es) (table fs) same q

    -- A test that is `same_values` decides whether the maps are equal.
    pub equal_as_maps : (es fs : List (K × B)) (b : Bool) → b ≡ same_values eq E es fs → (b ≡ true) ↔ IsEqualMap eq E es fs
    equal_as_maps es fs b is = (λ yes. each_from_same es fs (sym is ∙ yes), λ each. is ∙ same_from_each es fs each)

    -- Equality as partial functions is symmetric and transitive if equality of the values is.
    pub same_values_laws : IsPartialEquivalence E → IsPartialEquivalence (same_values eq E)
    same_values_laws values = record {
      symm = λ es fs. hash_map_eq_symm eq E values.symm (table es) (table fs);
      trans = λ es fs gs. hash_map_eq_trans eq E laws values.trans (table es) (table fs) (table gs);
    }

    -- It is reflexive if equality of the values is.
    pub same_values_equivalence : IsPartialEquivalence E → IsEquivalence E → IsEquivalence (same_values eq E)
    same_values_equivalence partly values = equiv (same_values_laws partly) (λ es. hash_map_eq_refl eq E values.refl (table es))

    -- The `==` of std's hash maps decides it.
    pub same_by_hash : {S : Type 0} (m n : HashMap K B S) → hash_map_eq eq E m n ≡ same_values eq E m.entries n.entries
    same_by_hash m n = refl

module _ {K B : Type 0} (cmp : K → K → Ordering) (order : IsTotalOrder cmp) (keys : K → K → Bool) (ties : (x y : K) → keys x y ≡ is_eq (cmp x y)) (E : B → B → Bool) where
  abbrev eq : K → K → Bool
  eq = eq_by_cmp cmp

  laws : IsEquivalence (eq_by_cmp cmp)
  laws = eq_by_cmp_equiv order

  -- Whether the entries are pairwise equal.
  abbrev one_by_one : List (K × B) → List (K × B) → Bool
  one_by_one es fs = pointwise (λ p q. keys p.0 q.0 && E p.1 q.1) es fs

  tied_at : (q x y : K) → eq x y ≡ true → eq q x ≡ eq q y
  tied_at q x y tied = laws.symm q x ∙ laws.congr x y q tied ∙ laws.symm y q

  -- Lists with pairwise equal entries have equal values at each key.
  pub each_from_one_by_one : (es fs : List (K × B)) → one_by_one es fs ≡ true → IsEqualMap eq E es fs
  each_from_one_by_one [] [] same q = refl
  each_from_one_by_one (e ∷ es) (f ∷ fs) same q =
      let first = first_so (keys e.0 f.0 && E e.1 f.1) _ same in
      let tied : eq e.0 f.0 ≡ true = sym (ties e.0 f.0) ∙ first_so _ _ first in
      ap (λ b. option_eq E (cond (eq q e.0) (Some e.1) (lookup (eq q) es)) (cond b (Some f.1) (lookup (eq q) fs))) (sym (tied_at q e.0 f.0 tied))
      ∙ by (eq q e.0) (second_so (keys e.0 f.0) _ first) (each_from_one_by_one es fs (second_so (keys e.0 f.0 && E e.1 f.1) _ same) q)
    where
      by : (b : Bool) → E e.1 f.1 ≡ true → agree_at eq E es fs q ≡ true → option_eq E (cond b (Some e.1) (lookup (eq q) es)) (cond b (Some f.1) (lookup (eq q) fs)) ≡ true
      by true value rest = value
      by false value rest = rest
  each_from_one_by_one es fs same q = absurd (true≢false (sym same))

  -- If the first entry's key equals q, no later entry's key does.
  none_later : (e : K × B) (es : List (K × B)) (q : K) → IsStrictlySortedBy cmp (keys_of (e ∷ es)) → eq q e.0 ≡ true → lookup (eq q) es ≡ None
  none_later e es q sorted tied = lookup-none (eq q) es (none_past_head laws q e es (IsDistinct-from_sorted cmp (keys_of (e ∷ es)) sorted) tied)

  -- Sorted lists with equal values at each key have pairwise equal entries.
  pub one_by_one_from_each : (es fs : List (K × B)) → IsStrictlySortedBy cmp (keys_of es) → IsStrictlySortedBy cmp (keys_of fs) → IsEqualMap eq E es fs → one_by_one es fs ≡ true
  one_by_one_from_each [] [] s t each = refl
  one_by_one_from_each [] (f ∷ fs) s t each = absurd (true≢false (sym (each f.0) ∙ ap (λ b. option_eq E None (cond b (Some f.1) (lookup (eq f.0) fs))) (laws.refl f.0)))
  one_by_one_from_each (e ∷ es) [] s t each = absurd (true≢false (sym (each e.0) ∙ ap (λ b. option_eq E (cond b (Some e.1) (lookup (eq e.0) es)) None) (laws.refl e.0)))
  one_by_one_from_each (e ∷ es) (f ∷ fs) s t each =
      by (cmp e.0 f.0) refl (one_by_one_from_each es fs (sorted_tail cmp e.0 (keys_of es) s) (sorted_tail cmp f.0 (keys_of fs) t))
    where
      at_first : agree_at eq E (e ∷ es) (f ∷ fs) e.0 ≡ option_eq E (Some e.1) (lookup (eq e.0) (f ∷ fs))
      at_first = ap (λ b. option_eq E (cond b (Some e.1) (lookup (eq e.0) es)) (lookup (eq e.0) (f ∷ fs))) (laws.refl e.0)

      at_second : agree_at eq E (e ∷ es) (f ∷ fs) f.0 ≡ option_eq E (lookup (eq f.0) (e ∷ es)) (Some f.1)
      at_second = ap (λ b. option_eq E (lookup (eq f.0) (e ∷ es)) (cond b (Some f.1) (lookup (eq f.0) fs))) (laws.refl f.0)

      rest : eq e.0 f.0 ≡ true → (q : K) (b : Bool) → eq q e.0 ≡ b → agree_at eq E es fs q ≡ true
      rest tied q true is = λ i. option_eq E (none_later e es q s is i) (none_later f fs q t (sym (tied_at q e.0 f.0 tied) ∙ is) i)
      rest tied q false is =
          sym (λ i. option_eq E (cond (is i) (Some e.1) (lookup (eq q) es)) (cond ((sym (tied_at q e.0 f.0 tied) ∙ is) i) (Some f.1) (lookup (eq q) fs))) ∙ each q

      by : (r : Ordering) → cmp e.0 f.0 ≡ r → (((q : K) → agree_at eq E es fs q ≡ true) → one_by_one es fs ≡ true) → one_by_one (e ∷ es) (f ∷ fs) ≡ true
      by Less is next = absurd (true≢false (sym (each e.0) ∙ at_first ∙ ap (option_eq E (Some e.1)) (lookup-none (eq e.0) (f ∷ fs) (none_below_head order e.0 f fs t is))))
      by Greater is next =
          absurd (true≢false (sym (each f.0) ∙ at_second ∙ ap (λ o. option_eq E o (Some f.1)) (lookup-none (eq f.0) (e ∷ es) (none_below_head order f.0 e es s (order.antisymm f.0 e.0 ∙ ap ordering_reverse is)))))
      by Equal is next =
          let tied : eq e.0 f.0 ≡ true = ap is_eq is in
          let value : E e.1 f.1 ≡ true = ap (λ b. option_eq E (Some e.1) (cond b (Some f.1) (lookup (eq e.0) fs))) (sym tied) ∙ sym at_first ∙ each e.0 in
          ap (λ b. (b && E e.1 f.1) && one_by_one es fs) (ties e.0 f.0 ∙ tied) ∙ ap (λ b. (true && b) && one_by_one es fs) value ∙ next (λ q. rest tied q (eq q e.0) refl)

  -- The `==` of std's ordered maps decides it.
  pub same_by_order : (es fs : List (K × B)) → IsStrictlySortedBy cmp (keys_of es) → IsStrictlySortedBy cmp (keys_of fs)
      → pointwise (λ p q. keys p.0 q.0 && E p.1 q.1) es fs ≡ same_values (eq_by_cmp cmp) E es fs
  same_by_order es fs s t = both_ways _ _ (λ same. same_from_each eq E es fs (each_from_one_by_one es fs same)) (λ same. one_by_one_from_each es fs s t (each_from_same eq E laws es fs same))
