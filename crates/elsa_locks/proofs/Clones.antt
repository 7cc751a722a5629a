-- Lemmas about clones: a clone has the content of its source if the clone of a key equals the key.
use Rattle.std.proofs.Common.{◌≡◌, ◌∙◌, Bool, cond, List, [], ◌∷◌, length, Some, refl, sym}
use Rattle.std.specs.Map.{keys_of}
use Rattle.std.specs.List.{AllZip, IsDistinct}
use Rattle.std.specs.Cmp.{IsEquivalence}
use Rattle.std.specs.Set.{is_member, distinct_count}
use Rattle.std.specs.declared.sync.Arc.{Arc}
use Rattle.std.specs.Arc.{arc_value}
use Rattle.std.proofs.lemmas.Map.Made.{is_some-lookup, length-from_keys, IsDistinct-from_count}
use Rattle.std.proofs.lemmas.Slice.Zip.{AllZip-long}
use Rattle.std_collections.proofs.SetLists.{member_clones}
use Rattle.elsa_tables.specs.FirstWins.{value_at, IsKeys, IsSameContent, CloneIsEqual}
use Rattle.elsa_locks.specs.Shared.{shown, shown_items}

-- Clones of `Arc`s show the same items.
pub copied_items : {V Z : Type 0} (es fs : List (Arc V Z)) → AllZip (λ x y. arc_value y ≡ arc_value x) es fs → shown_items fs ≡ shown_items es
copied_items [] [] h = refl
copied_items (e ∷ es) (f ∷ fs) h = λ i. h.0 i ∷ copied_items es fs h.1 i
copied_items es fs h = absurd h

module _ {K : Type 0} {eq : K → K → Bool} (laws : IsEquivalence eq) (C : K → K → Type 0) (clones : CloneIsEqual C eq) where
  -- A query finds a key exactly if it finds its clone.
  alike : (q k c : K) → C k c → eq q c ≡ eq q k
  alike q k c h = laws.symm q c ∙ sym (laws.congr k c q (clones k c h)) ∙ laws.symm k q

  -- If each entry is cloned and each `Arc` shows the same value, the content is the same.
  pub copied : {V Z : Type 0} (es fs : List (K × Arc V Z)) → AllZip (λ p r. C p.0 r.0 × (arc_value r.1 ≡ arc_value p.1)) es fs → IsSameContent eq (shown es) (shown fs)
  copied [] [] h q = refl
  copied (e ∷ es) (f ∷ fs) h q = λ i. cond (alike q e.0 f.0 h.0.0 i) (Some (h.0.1 i)) (copied es fs h.1 q i)
  copied es fs h q = absurd h

  -- The clones of a map's keys are its keys.
  pub keys_of_clones : {V : Type 0} (es : List (K × V)) (ks : List K) → AllZip C (keys_of es) ks → IsDistinct eq (keys_of es) → IsKeys eq (value_at eq es) ks
  keys_of_clones es ks h d =
      let same : (q : K) → is_member eq ks q ≡ is_member eq (keys_of es) q = member_clones laws C clones (keys_of es) ks h in
      let long : length (keys_of es) ≡ distinct_count eq ks = length-from_keys laws (keys_of es) ks d (λ q. sym (same q)) in
      (IsDistinct-from_count laws ks (sym long ∙ sym (AllZip-long C (keys_of es) ks h)), λ q. is_some-lookup (eq q) es ∙ sym (same q))
