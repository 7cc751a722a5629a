-- A search among the entries that were observed, compared with one among all entries.
use Rattle.std.proofs.Common.{◌≡◌, ◌+◌, ◌<◌, ◌≤◌, ℕ, zero, suc, arith, Bool, true, false, is_some, true≢false, List, [], ◌∷◌, ◌++◌, cond, map, length, position, slice_get, Option, None, Some, refl, sym, ap, ◌∙◌}
use Rattle.std.proofs.lemmas.Iterator.Adapters.{position_from-zero}
use Rattle.std.proofs.lemmas.List.{map-append}
use Rattle.std.proofs.lemmas.Option.{same_Some}
use Rattle.std.specs.List.{position_from}
use Rattle.std.specs.Option.{option_or}
use mathlib.Core.List.{IsPrefix}
use Rattle.elsa_cell.specs.declared.map.Entry.{Entry}
use Rattle.elsa_cell.specs.Entries.{key_of}
use Rattle.elsa_cell.proofs.EntryLemmas.{within_at}
use Rattle.elsa_cell.proofs.ScanLemmas.{length_keys}

module _ {K : Type 0} (test : K → Bool) where
  -- A search that continues in a second list.
  from_append : (i : ℕ) (xs ys : List K) → position_from test i (xs ++ ys) ≡ option_or (position_from test i xs) (position_from test (i + length xs) ys)
  from_append i [] ys = let same : i ≡ i + 0 = omega arith in ap (λ n. position_from test n ys) same
  from_append i (x ∷ xs) ys = ap (cond (test x) (Some i)) (from_append (i + 1) xs ys ∙ ap (λ n. option_or (position_from test (i + 1) xs) (position_from test n ys)) moved) ∙ by (test x)
    where
      moved : i + 1 + length xs ≡ i + length (x ∷ xs)
      moved = omega arith

      by : (b : Bool) → cond b (Some i) (option_or (position_from test (i + 1) xs) (position_from test (i + length (x ∷ xs)) ys)) ≡ option_or (cond b (Some i) (position_from test (i + 1) xs)) (position_from test (i + length (x ∷ xs)) ys)
      by true = refl
      by false = refl

  -- It finds no index before its first one.
  from_least : (i j : ℕ) (xs : List K) → position_from test i xs ≡ Some j → i ≤ j
  from_least i j [] at = absurd (true≢false (sym (ap is_some at)))
  from_least i j (x ∷ xs) at = by (test x) (from_least (i + 1) j xs) at
    where
      by : (b : Bool) → (position_from test (i + 1) xs ≡ Some j → i + 1 ≤ j) → cond b (Some i) (position_from test (i + 1) xs) ≡ Some j → i ≤ j
      by true rest here = let same = same_Some i j here in omega (arith, same)
      by false rest later = let least = rest later in omega (arith, least)

module _ {K V : Type 0} (test : K → Bool) (es all : List (Entry K V)) (begins : IsPrefix es all) where
  -- The search among all continues after those that were observed.
  goes_on : position test (map key_of all) ≡ option_or (position test (map key_of es)) (position_from test (length es) (map key_of begins.0))
  goes_on =
      let same = length_keys key_of es in let count : 0 + length (map key_of es) ≡ length es = omega (arith, same) in
      ap (λ l. position test (map key_of l)) (sym begins.1)
      ∙ (ap (position test) (map-append key_of es begins.0)
      ∙ (position_from-zero test (map key_of es ++ map key_of begins.0)
      ∙ (from_append test 0 (map key_of es) (map key_of begins.0)
      ∙ (ap (λ o. option_or o (position_from test (0 + length (map key_of es)) (map key_of begins.0))) (sym (position_from-zero test (map key_of es)))
      ∙ ap (λ n. option_or (position test (map key_of es)) (position_from test n (map key_of begins.0))) count))))

  -- A key that was observed has its index.
  pub seen_at : (i : ℕ) → position test (map key_of all) ≡ Some i → i < length es → position test (map key_of es) ≡ Some i
  seen_at i at below = by (position test (map key_of es)) refl
    where
      by : (o : Option ℕ) → position test (map key_of es) ≡ o → position test (map key_of es) ≡ Some i
      by (Some j) is = is ∙ (sym (goes_on ∙ ap (λ o. option_or o (position_from test (length es) (map key_of begins.0))) is) ∙ at)
      by None is =
          let least = from_least test (length es) i (map key_of begins.0) (sym (goes_on ∙ ap (λ o. option_or o (position_from test (length es) (map key_of begins.0))) is) ∙ at) in
          absurd (omega (arith, below, least))

  -- A key whose index is that of a later entry was not observed.
  pub later_at : (i : ℕ) → position test (map key_of all) ≡ Some i → length es ≤ i → position test (map key_of es) ≡ None
  later_at i at above = by (position test (map key_of es)) refl
    where
      by : (o : Option ℕ) → position test (map key_of es) ≡ o → position test (map key_of es) ≡ None
      by None is = is
      by (Some j) is =
          let same = same_Some j i (sym (goes_on ∙ ap (λ o. option_or o (position_from test (length es) (map key_of begins.0))) is) ∙ at) in
          let below = within_at test es j is in
          absurd (omega (arith, above, same, below))

  -- A key that no entry has was not observed.
  pub never_at : position test (map key_of all) ≡ None → position test (map key_of es) ≡ None
  never_at none = by (position test (map key_of es)) refl
    where
      by : (o : Option ℕ) → position test (map key_of es) ≡ o → position test (map key_of es) ≡ None
      by None is = is
      by (Some j) is = absurd (true≢false (ap is_some (sym (goes_on ∙ ap (λ o. option_or o (position_from test (length es) (map key_of begins.0))) is) ∙ none)))

-- The entry at an observed index.
get_first : {X : Type 0} (xs ys : List X) (i : ℕ) → i < length xs → slice_get xs i ≡ slice_get (xs ++ ys) i
get_first [] ys i below = absurd (omega (arith, below))
get_first (x ∷ xs) ys zero below = refl
get_first (x ∷ xs) ys (suc i) below = get_first xs ys i (omega (arith, below))

pub seen_item : {X : Type 0} (xs all : List X) (i : ℕ) (x : X) → IsPrefix xs all → slice_get all i ≡ Some x → i < length xs → slice_get xs i ≡ Some x
seen_item xs all i x begins at below = get_first xs begins.0 i below ∙ (ap (λ l. slice_get l i) begins.1 ∙ at)
