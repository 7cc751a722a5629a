-- Names as texts, the borrows of names, and the table of their indices.
use Rattle.std.proofs.Common.{◌≡◌, ℕ, ◌+◌, ◌<◌, ◌≤◌, ◌⊎◌, false, true≢false, Bool, true, List, [], ◌∷◌, ◌++◌, length, get_or, map, position, slice_get, refl, ap, subst, sym, ◌∙◌, append-nil, arith, Option, Bor, None, Some, IfSome, MatchOption, inl, inr}
use mathlib.Core.List.{IsPrefix}
use Rattle.std.proofs.lemmas.Grind.{common_steps}
use Rattle.std.proofs.lemmas.List.{length-append, map-append, length-map}
use Rattle.std.proofs.lemmas.List.Folds.{position_or_len_push}
use Rattle.std.proofs.lemmas.List.Quantifiers.{position-Some}
use Rattle.std.proofs.lemmas.List.Sums.{fails_before_first, position_or_len_is, prefix_len-le-length}
use Rattle.std.proofs.Math.ListN.{get_or-append}
use Rattle.std.proofs.Math.Seq.{get_or-append_seam}
use Rattle.std.specs.Str.{bytes_eq}
use Rattle.std.specs.List.{position_or_len}
use Rattle.std.specs.Fmt.{debug_items, debug_list, debug_str, comma_space, ◌++?◌}
use Rattle.std.specs.Option.{option_map}
use Rattle.std.specs.Cmp.Lexicographic.{bytes_decides, nat_list_eq_equiv}
use Rattle.std.proofs.lemmas.Bool.{cases_lt, false_from_ne_true}
use Rattle.std.proofs.lemmas.Option.{slice_get-get_or, slice_get-map, slice_get_cases, slice_get_within, get_or_from_slice_get}
use Rattle.elsa_interner.specs.Names.{Puts, IsOneToOne, IsNumbered}
use Rattle.elsa_buckets.specs.Table.{Entries, indices, Has, HasSame, AddsIndex}
use Rattle.elsa_buckets.proofs.PlacedLemmas.{has_added, has_kept, has_same}

abbrev shown : List (Bor (List ℕ)) → List (List ℕ)
shown ks = map (λ b. b.now) ks

-- If a borrow is pushed, its text is the last name.
pub shown_push : (ks ms cs : List (Bor (List ℕ))) (text : List ℕ) (b : Bor (List ℕ)) → ms ≡ ks → cs ≡ ms ++ b ∷ [] → b.now ≡ text → map (λ k. k.now) cs ≡ map (λ k. k.now) ks ++ text ∷ []
shown_push ks ms cs text b same last copied =
    ap shown last ∙ map-append (λ k. k.now) ms (b ∷ []) ∙ ap (λ l. shown l ++ b.now ∷ []) same ∙ ap (λ t. shown ks ++ t ∷ []) copied

-- A new text is the last name after its `put`.
pub put_new : (names after : List (List ℕ)) (text : List ℕ) (n : ℕ) → position (bytes_eq text) names ≡ None → n ≡ length names → after ≡ names ++ text ∷ [] → Puts names text n after
put_new names after text n none number last =
    subst (λ o. MatchOption o ((n ≡ length names) × (after ≡ names ++ text ∷ [])) (λ j. (n ≡ j) × (after ≡ names))) (sym none) (number, last)

-- The name at the index at which a text is found is that text.
pub at_index : (names : List (List ℕ)) (text : List ℕ) (n : ℕ) → position (bytes_eq text) names ≡ Some n → slice_get names n ≡ Some text
at_index names text n found =
    let p = position-Some (bytes_eq text) names n [] found in
    slice_get-get_or names n [] p.0 ∙ ap Some (sym ((bytes_decides text (get_or names n [])).0 p.1))

-- If a text is found, the name at its index is that text.
pub named_index : (names : List (List ℕ)) (text : List ℕ) → IfSome (position (bytes_eq text) names) (λ n. slice_get names n ≡ Some text)
named_index names text = by (position (bytes_eq text) names) refl
  where
    by : (o : Option ℕ) → position (bytes_eq text) names ≡ o → IfSome o (λ n. slice_get names n ≡ Some text)
    by None at = tt
    by (Some n) at = at_index names text n at

-- If a text is found, its index is below each number that is at or above the length.
pub few_indices : (names : List (List ℕ)) (text : List ℕ) (limit : ℕ) → length names ≤ limit → IfSome (position (bytes_eq text) names) (λ n. n < limit)
few_indices names text limit few = by (position (bytes_eq text) names) refl
  where
    by : (o : Option ℕ) → position (bytes_eq text) names ≡ o → IfSome o (λ n. n < limit)
    by None at = tt
    by (Some n) at = let p = position-Some (bytes_eq text) names n [] at in omega (arith, p.0, few)

-- A text that equals no name is found at the next index once it is appended.
found_last : (names : List (List ℕ)) (text : List ℕ) → position (bytes_eq text) names ≡ None → position (bytes_eq text) (names ++ text ∷ []) ≡ Some (length names)
found_last names text none =
    let same : bytes_eq text text ≡ true = nat_list_eq_equiv.refl text in
    grind (arith, common_steps, position_or_len_push, prefix_len-le-length, length-append)

-- A name that was put is found at its number.
pub stands_put : (names : List (List ℕ)) (text : List ℕ) (n : ℕ) (after : List (List ℕ)) → Puts names text n after → position (bytes_eq text) after ≡ Some n
stands_put names text n after h = by (position (bytes_eq text) names) refl h
  where
    by : (o : Option ℕ) → position (bytes_eq text) names ≡ o → MatchOption o ((n ≡ length names) × (after ≡ names ++ text ∷ [])) (λ i. (n ≡ i) × (after ≡ names)) → position (bytes_eq text) after ≡ Some n
    by None at g = ap (position (bytes_eq text)) g.1 ∙ found_last names text at ∙ ap Some (sym g.0)
    by (Some i) at g = ap (position (bytes_eq text)) g.1 ∙ at ∙ ap Some (sym g.0)

-- The earlier names keep their numbers.
pub kept_put : (names : List (List ℕ)) (text : List ℕ) (n : ℕ) (after : List (List ℕ)) → Puts names text n after → IsPrefix names after
kept_put names text n after h = by (position (bytes_eq text) names) h
  where
    by : (o : Option ℕ) → MatchOption o ((n ≡ length names) × (after ≡ names ++ text ∷ [])) (λ i. (n ≡ i) × (after ≡ names)) → IsPrefix names after
    by None g = (text ∷ [], sym g.1)
    by (Some i) g = ([], append-nil names ∙ sym g.1)

-- If no two names are equal, a text is found at the only index that it has.
found_alone : (names : List (List ℕ)) (text : List ℕ) (i : ℕ) → IsOneToOne names → slice_get names i ≡ Some text → position (bytes_eq text) names ≡ Some i
found_alone names text i one_to_one there =
    let within = slice_get_within names i text there in
    let first : position_or_len (bytes_eq text) names ≡ i = position_or_len_is (bytes_eq text) names i [] (omega arith) no_earlier (λ _. passes) in
    grind (arith, common_steps, first, within)
  where
    passes : bytes_eq text (get_or names i []) ≡ true
    passes = ap (bytes_eq text) (get_or_from_slice_get names i text [] there) ∙ nat_list_eq_equiv.refl text

    no_earlier : (k : ℕ) → k < i → bytes_eq text (get_or names k []) ≡ false
    no_earlier k lt = false_from_ne_true _ (λ e.
        let within = slice_get_within names i text there in
        let same : get_or names k [] ≡ text = sym ((bytes_decides text (get_or names k [])).0 e) in
        let there_too : slice_get names k ≡ Some text = slice_get-get_or names k [] (omega arith) ∙ ap Some same in
        omega (arith, one_to_one k i text there_too there, lt))

-- A `put` of a text that is a name returns its index, and the names are unchanged.
pub put_there : (names : List (List ℕ)) (text : List ℕ) (n : ℕ) → IsOneToOne names → slice_get names n ≡ Some text → Puts names text n names
put_there names text n one_to_one there =
    subst (λ o. MatchOption o ((n ≡ length names) × (names ≡ names ++ text ∷ [])) (λ i. (n ≡ i) × (names ≡ names))) (sym (found_alone names text n one_to_one there)) (refl, refl)

-- A text that is at no index is not found.
found_never : (names : List (List ℕ)) (text : List ℕ) → ((i : ℕ) → slice_get names i ≡ Some text → ⊥) → position (bytes_eq text) names ≡ None
found_never names text never =
    let last : position_or_len (bytes_eq text) names ≡ length names = position_or_len_is (bytes_eq text) names (length names) [] (omega arith) none_passes (λ lt. absurd (omega arith)) in
    grind (arith, common_steps, last)
  where
    none_passes : (k : ℕ) → k < length names → bytes_eq text (get_or names k []) ≡ false
    none_passes k lt = false_from_ne_true _ (λ e. never k (slice_get-get_or names k [] lt ∙ ap Some (sym ((bytes_decides text (get_or names k [])).0 e))))

-- A text that is not found is at no index.
pub never_there : (names : List (List ℕ)) (text : List ℕ) (i : ℕ) → position (bytes_eq text) names ≡ None → slice_get names i ≡ Some text → ⊥
never_there names text i none there =
    let within = slice_get_within names i text there in
    let past : position_or_len (bytes_eq text) names ≡ length names = grind (arith, common_steps, prefix_len-le-length) in
    let fails = fails_before_first (bytes_eq text) names i [] (omega (arith, past, within)) in
    true≢false (sym (ap (bytes_eq text) (get_or_from_slice_get names i text [] there) ∙ nat_list_eq_equiv.refl text) ∙ fails)

-- The comparison of a borrow with the text is the comparison of its name with the text.
named_here : (ks : List (Bor (List ℕ))) (text : List ℕ) (i : ℕ) (b : Bool) → i < length ks → ((d : Bor (List ℕ)) → b ≡ bytes_eq text (get_or ks i d).now) → bytes_eq text (get_or (shown ks) i []) ≡ b
named_here ks text i b lt compared = elim ((slice_get_cases ks i).1) [
  | inl h ↦ ap (bytes_eq text) (get_or_from_slice_get (shown ks) i h.0.now [] (slice_get-map (λ k. k.now) ks i ∙ ap (option_map (λ k. k.now)) h.2)) ∙ ap (λ k. bytes_eq text k.now) (sym h.3) ∙ sym (compared h.0)
  | inr h ↦ absurd (omega (arith, h.0))
]

-- If the search accepted an index, the text is found there.
pub found_here : (ks : List (Bor (List ℕ))) (text : List ℕ) (i : ℕ) → IsOneToOne (map (λ k. k.now) ks) → i < length ks
    → ((d : Bor (List ℕ)) → true ≡ bytes_eq text (get_or ks i d).now) → position (bytes_eq text) (map (λ k. k.now) ks) ≡ Some i
found_here ks text i one_to_one lt compared =
    let same = (bytes_decides text (get_or (shown ks) i [])).0 (named_here ks text i true lt compared) in
    found_alone (shown ks) text i one_to_one (slice_get-get_or (shown ks) i [] (omega (arith, length-map ks (λ k. k.now))) ∙ ap Some (sym same))

-- If the search rejected each index that the text could have, the text isn't found.
pub found_nowhere : (ks : List (Bor (List ℕ))) (text : List ℕ)
    → ((i : ℕ) → slice_get (map (λ k. k.now) ks) i ≡ Some text → (d : Bor (List ℕ)) → false ≡ bytes_eq text (get_or ks i d).now) → position (bytes_eq text) (map (λ k. k.now) ks) ≡ None
found_nowhere ks text refused = found_never (shown ks) text (λ i there.
    let lt : i < length ks = omega (arith, slice_get_within (shown ks) i text there, length-map ks (λ k. k.now)) in
    let passes = ap (bytes_eq text) (get_or_from_slice_get (shown ks) i text [] there) ∙ nat_list_eq_equiv.refl text in
    true≢false (sym passes ∙ named_here ks text i false lt (refused i there)))

-- A name after an append is one of the earlier names, or the last one.
split_last : (names : List (List ℕ)) (text : List ℕ) (i : ℕ) (word : List ℕ) → slice_get (names ++ text ∷ []) i ≡ Some word
    → (slice_get names i ≡ Some word) ⊎ ((i ≡ length names) × (text ≡ word))
split_last names text i word there =
    let read = get_or_from_slice_get (names ++ text ∷ []) i word [] there in
    let within = slice_get_within (names ++ text ∷ []) i word there in
    elim (cases_lt i (length names)) [
      | inl lt ↦ inl (slice_get-get_or names i [] lt ∙ ap Some (sym (get_or-append names (text ∷ []) [] i lt) ∙ read))
      | inr ge ↦
          let last : i ≡ length names = omega (arith, within, length-append names (text ∷ [])) in
          inr (last, sym (get_or-append_seam names text [] []) ∙ ap (λ n. get_or (names ++ text ∷ []) n []) (sym last) ∙ read)
    ]

-- A new name whose index was added to the table.
pub numbered_put : (hash : List ℕ → ℕ) (before after : Entries) (names : List (List ℕ)) (text : List ℕ) (h index : ℕ) → IsNumbered hash before names
    → h ≡ hash text → index ≡ indices before → indices after ≡ indices before + 1 → AddsIndex before h index after → position (bytes_eq text) names ≡ None
    → IsNumbered hash after (names ++ text ∷ [])
numbered_put hash before after names text h index old hashed placed more adds none = record {
  counted = omega (arith, more, old.counted, length-append names (text ∷ []));
  entered = λ i word there. elim (split_last names text i word there) [
    | inl earlier ↦ has_kept before after h index adds (hash word) i (old.entered i word earlier)
    | inr last ↦
        let at : index ≡ i = omega (arith, placed, old.counted, last.0) in
        subst (λ n. Has after (hash word) n) at (subst (λ n. Has after n index) (hashed ∙ ap hash last.1) (has_added before after h index adds))
  ];
  one_to_one = λ i j word at_i at_j. elim (split_last names text i word at_i) [
    | inl a ↦ elim (split_last names text j word at_j) [
      | inl b ↦ old.one_to_one i j word a b
      | inr b ↦ absurd (never_there names text i none (a ∙ ap Some (sym b.1)))
    ]
    | inr a ↦ elim (split_last names text j word at_j) [
      | inl b ↦ absurd (never_there names text j none (b ∙ ap Some (sym a.1)))
      | inr b ↦ omega (arith, a.0, b.0)
    ]
  ];
}

-- A table with the same indices numbers the same names.
pub numbered_same : (hash : List ℕ → ℕ) (before after : Entries) (names : List (List ℕ)) → IsNumbered hash before names → indices after ≡ indices before → HasSame before after
    → IsNumbered hash after names
numbered_same hash before after names old count same = record {
  counted = count ∙ old.counted;
  entered = λ i text there. has_same before after (hash text) i same (old.entered i text there);
  one_to_one = old.one_to_one;
}

-- A table without indices numbers no names.
pub numbered_none : (hash : List ℕ → ℕ) (table : Entries) → indices table ≡ 0 → IsNumbered hash table []
numbered_none hash table none = record {
  counted = none;
  entered = λ i text there. absurd (omega (arith, slice_get_within {A = List ℕ} [] i text there));
  one_to_one = λ i j text at_i at_j. absurd (omega (arith, slice_get_within {A = List ℕ} [] i text at_i));
}

-- Printing the results of a function is printing the items through that function.
printed_items : {X Y : Type 0} (f : X → Y) (text : Y → Option (List ℕ)) (lead : List ℕ) (xs : List X) → debug_items text lead (map f xs) ≡ debug_items (λ x. text (f x)) lead xs
printed_items f text lead [] = refl
printed_items f text lead (x ∷ xs) = ap (λ rest. Some lead ++? text (f x) ++? rest) (printed_items f text comma_space xs)

-- The names print as their borrows do.
pub listed_names : (ks : List (Bor (List ℕ))) → debug_list debug_str (map (λ k. k.now) ks) ≡ debug_list (λ (k : Bor (List ℕ)). debug_str k.now) ks
listed_names ks = ap (λ items. Some (91 ∷ []) ++? items ++? Some (93 ∷ [])) (printed_items (λ (k : Bor (List ℕ)). k.now) debug_str [] ks)
