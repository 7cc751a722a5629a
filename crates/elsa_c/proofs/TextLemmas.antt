-- Where a text is found among names that a function gives of other values.
use Rattle.std.proofs.Common.{◌≡◌, ℕ, ◌<◌, false, true≢false, Bool, true, List, [], ◌∷◌, ◌++◌, length, get_or, map, position, slice_get, ap, sym, ◌∙◌, arith, None, Some, inl, inr}
use Rattle.std.proofs.lemmas.Grind.{common_steps}
use Rattle.std.proofs.lemmas.List.{map-append, length-map}
use Rattle.std.proofs.lemmas.List.Sums.{position_or_len_is}
use Rattle.std.proofs.lemmas.Bool.{false_from_ne_true}
use Rattle.std.specs.List.{position_or_len}
use Rattle.std.specs.Str.{bytes_eq}
use Rattle.std.specs.Option.{option_map}
use Rattle.std.specs.Cmp.Lexicographic.{bytes_decides, nat_list_eq_equiv}
use Rattle.std.proofs.lemmas.Option.{slice_get-get_or, slice_get-map, slice_get_cases, slice_get_within, get_or_from_slice_get}
use Rattle.elsa_interner.specs.Names.{IsOneToOne}

-- the only index of a text is the first
pub found_alone : (names : List (List ℕ)) (text : List ℕ) (i : ℕ) → IsOneToOne names → slice_get names i ≡ Some text → position (bytes_eq text) names ≡ Some i
found_alone names text i one_to_one there =
    let within = slice_get_within names i text there in
    let first : position_or_len (bytes_eq text) names ≡ i = position_or_len_is (bytes_eq text) names i [] (omega arith) no_earlier (λ _. passes) in
    grind (arith, common_steps, first, within)
  where
    passes : bytes_eq text (get_or names i []) ≡ true
    passes = ap (bytes_eq text) (get_or_from_slice_get names i text [] there) ∙ nat_list_eq_equiv.refl text

    no_earlier : (k : ℕ) → k < i → bytes_eq text (get_or names k []) ≡ false
    no_earlier k lt = false_from_ne_true _ (λ e.
        let within = slice_get_within names i text there in
        let same : get_or names k [] ≡ text = sym ((bytes_decides text (get_or names k [])).0 e) in
        let there_too : slice_get names k ≡ Some text = slice_get-get_or names k [] (omega arith) ∙ ap Some same in
        omega (arith, one_to_one k i text there_too there, lt))

-- a text that is at no index is not found
pub found_never : (names : List (List ℕ)) (text : List ℕ) → ((i : ℕ) → slice_get names i ≡ Some text → ⊥) → position (bytes_eq text) names ≡ None
found_never names text never =
    let last : position_or_len (bytes_eq text) names ≡ length names = position_or_len_is (bytes_eq text) names (length names) [] (omega arith) none_passes (λ lt. absurd (omega arith)) in
    grind (arith, common_steps, last)
  where
    none_passes : (k : ℕ) → k < length names → bytes_eq text (get_or names k []) ≡ false
    none_passes k lt = false_from_ne_true _ (λ e. never k (slice_get-get_or names k [] lt ∙ ap Some (sym ((bytes_decides text (get_or names k [])).0 e))))

module _ {X : Type 0} (f : X → List ℕ) where
  -- the name of a value that compares equal
  named_here : (ks : List X) (text : List ℕ) (i : ℕ) (b : Bool) → i < length ks → ((d : X) → b ≡ bytes_eq text (f (get_or ks i d))) → bytes_eq text (get_or (map f ks) i []) ≡ b
  named_here ks text i b lt compared = elim ((slice_get_cases ks i).1) [
    | inl h ↦ ap (bytes_eq text) (get_or_from_slice_get (map f ks) i (f h.0) [] (slice_get-map f ks i ∙ ap (option_map f) h.2)) ∙ ap (λ k. bytes_eq text (f k)) (sym h.3) ∙ sym (compared h.0)
    | inr h ↦ absurd (omega (arith, h.0))
  ]

  -- the index whose name the search accepted is the text's
  pub found_here : (ks : List X) (text : List ℕ) (i : ℕ) → IsOneToOne (map f ks) → i < length ks
      → ((d : X) → true ≡ bytes_eq text (f (get_or ks i d))) → position (bytes_eq text) (map f ks) ≡ Some i
  found_here ks text i one_to_one lt compared =
      let same = (bytes_decides text (get_or (map f ks) i [])).0 (named_here ks text i true lt compared) in
      found_alone (map f ks) text i one_to_one (slice_get-get_or (map f ks) i [] (omega (arith, length-map ks f)) ∙ ap Some (sym same))

  -- where the search rejected each index that the text could have, it has none
  pub found_nowhere : (ks : List X) (text : List ℕ)
      → ((i : ℕ) → slice_get (map f ks) i ≡ Some text → (d : X) → false ≡ bytes_eq text (f (get_or ks i d))) → position (bytes_eq text) (map f ks) ≡ None
  found_nowhere ks text refused = found_never (map f ks) text (λ i there.
      let lt : i < length ks = omega (arith, slice_get_within (map f ks) i text there, length-map ks f) in
      let passes = ap (bytes_eq text) (get_or_from_slice_get (map f ks) i text [] there) ∙ nat_list_eq_equiv.refl text in
      true≢false (sym passes ∙ named_here ks text i false lt (refused i there)))

  -- a name that is pushed last
  pub shown_push : (ks ms cs : List X) (text : List ℕ) (b : X) → ms ≡ ks → cs ≡ ms ++ b ∷ [] → f b ≡ text → map f cs ≡ map f ks ++ text ∷ []
  shown_push ks ms cs text b same last copied =
      ap (map f) last ∙ map-append f ms (b ∷ []) ∙ ap (λ l. map f l ++ f b ∷ []) same ∙ ap (λ t. map f ks ++ t ∷ []) copied
