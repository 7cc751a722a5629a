-- The names after texts are put in their order.
use Rattle.std.proofs.Common.{◌≡◌, ℕ, Bool, true, false, ◌||◌, if◌then◌else◌, List, [], ◌∷◌, ◌++◌, length, map, position, refl, sym, ap, subst, ◌∙◌, append_assoc, append-nil, arith, Option, Bor, None, Some, MatchOption}
use mathlib.Core.List.{IsPrefix}
use Rattle.std.specs.Cmp.Lexicographic.{nat_list_eq_equiv}
use Rattle.std.specs.List.{AllByRecursion, IsDistinct, list_any, position_or_len}
use Rattle.std.specs.Str.{bytes_eq}
use Rattle.std.proofs.lemmas.List.{map-append}
use Rattle.std.proofs.lemmas.List.Folds.{list_any_at, list_any_none}
use Rattle.std.proofs.lemmas.List.Sums.{fails_before_first, prefix_len-le-length}
use Rattle.std.proofs.lemmas.Grind.{common_steps}
use Rattle.std.proofs.lemmas.List.Quantifiers.{position-Some}
use Rattle.elsa_tables.specs.Insertions.{first_of_each}
use Rattle.elsa_tables.proofs.FirstOfEach.{first_of_each_push, same_any}
use Rattle.elsa_interner.specs.Names.{Puts, PutsAll}

abbrev bytes : Bor (List ℕ) → List ℕ
bytes text = text.now

-- No text is put.
pub puts_none : (names after : List (List ℕ)) → after ≡ names → PutsAll names [] after
puts_none names after same = same ∙ sym (append-nil names)

-- No name equals a text that isn't found.
none_equals : (names : List (List ℕ)) (text : List ℕ) → position (bytes_eq text) names ≡ None → list_any (bytes_eq text) names ≡ false
none_equals names text none =
    let all = length_found names text none in
    list_any_none (bytes_eq text) names (λ k d l. fails_before_first (bytes_eq text) names k d (omega (arith, all)))
  where
    length_found : (names : List (List ℕ)) (text : List ℕ) → position (bytes_eq text) names ≡ None → position_or_len (bytes_eq text) names ≡ length names
    length_found names text none = grind (arith, common_steps, prefix_len-le-length)

module _ (names : List (List ℕ)) where
  abbrev firsts : List (Bor (List ℕ)) → List (Bor (List ℕ))
  firsts texts = first_of_each bytes_eq bytes names texts

  -- Another text is put.
  pub puts_more : (now after : List (List ℕ)) (texts : List (Bor (List ℕ))) (text : Bor (List ℕ)) (n : ℕ) → PutsAll names texts now → Puts now text.now n after → PutsAll names (texts ++ text ∷ []) after
  puts_more now after texts text n before put = by (position (bytes_eq text.now) now) refl put
    where
      seen : list_any (bytes_eq text.now) (names ++ map bytes texts) ≡ list_any (bytes_eq text.now) now
      seen = sym (same_any bytes_eq bytes nat_list_eq_equiv text.now names texts) ∙ ap (list_any (bytes_eq text.now)) (sym before)

      pushed : (c : Bool) → list_any (bytes_eq text.now) now ≡ c → firsts (texts ++ text ∷ []) ≡ firsts texts ++ (if c then [] else text ∷ [])
      pushed c e = first_of_each_push bytes_eq bytes names texts text ∙ ap (λ d. firsts texts ++ (if d then [] else text ∷ [])) (seen ∙ e)

      by : (o : Option ℕ) → position (bytes_eq text.now) now ≡ o → MatchOption o ((n ≡ length now) × (after ≡ now ++ text.now ∷ [])) (λ i. (n ≡ i) × (after ≡ now)) → PutsAll names (texts ++ text ∷ []) after
      by None at g =
          g.1 ∙ ap (λ l. l ++ text.now ∷ []) before ∙ append_assoc names (map bytes (firsts texts)) (text.now ∷ [])
          ∙ ap (λ l. names ++ l) (sym (ap (map bytes) (pushed false (none_equals now text.now at)) ∙ map-append bytes (firsts texts) (text ∷ [])))
      by (Some j) at g =
          let p = position-Some (bytes_eq text.now) now j [] at in
          let same = pushed true (list_any_at (bytes_eq text.now) now j [] p.0 p.1) ∙ append-nil (firsts texts) in
          g.1 ∙ before ∙ ap (λ l. names ++ map bytes l) (sym same)

-- The earlier names keep their numbers.
pub puts_keep : (names after : List (List ℕ)) (texts : List (Bor (List ℕ))) → PutsAll names texts after → IsPrefix names after
puts_keep names after texts put = (map bytes (first_of_each bytes_eq bytes names texts), sym put)

-- ---- distinct texts

-- A text that is apart from each of a list is apart from one of them.
later : (y x : List ℕ) (ys xs : List (List ℕ)) → AllByRecursion (λ z. bytes_eq y z ≡ false) (ys ++ x ∷ xs) → bytes_eq y x ≡ false
later y x [] xs each = each.0
later y x (z ∷ ys) xs each = later y x ys xs each.1

-- A text of distinct ones is not among those before it.
apart : (ks xs : List (List ℕ)) (x : List ℕ) → IsDistinct bytes_eq (ks ++ x ∷ xs) → list_any (bytes_eq x) ks ≡ false
unfolding IsDistinct
apart [] xs x distinct = refl
apart (y ∷ ys) xs x distinct = ap (λ b. b || list_any (bytes_eq x) ys) (nat_list_eq_equiv.symm x y ∙ later y x ys xs distinct.0) ∙ apart ys xs x distinct.1

-- Each of distinct texts is new.
first_all : (ks : List (List ℕ)) (texts : List (Bor (List ℕ))) → IsDistinct bytes_eq (ks ++ map bytes texts) → first_of_each bytes_eq bytes ks texts ≡ texts
first_all ks [] distinct = refl
first_all ks (text ∷ texts) distinct =
    ap (λ c. (if c then [] else text ∷ []) ++ first_of_each bytes_eq bytes (ks ++ text.now ∷ []) texts) (apart ks (map bytes texts) text.now distinct)
    ∙ ap (λ l. text ∷ l) (first_all (ks ++ text.now ∷ []) texts (subst (IsDistinct bytes_eq) (sym (append_assoc ks (text.now ∷ []) (map bytes texts))) distinct))

-- So distinct texts are the names.
pub puts_distinct : (after : List (List ℕ)) (texts : List (Bor (List ℕ))) → PutsAll [] texts after → IsDistinct bytes_eq (map bytes texts) → after ≡ map bytes texts
puts_distinct after texts put distinct = put ∙ ap (map bytes) (first_all [] texts distinct)
