-- The steps of a row preserve its rule, and an index entry that was set doesn't change.
use Rattle.std.proofs.Common.{◌≡◌, ℕ, zero, suc, ◌+◌, ◌*◌, ◌^◌, ◌<◌, ◌==◌, inl, inr, Bool, true, false, List, [], ◌∷◌, ◌++◌, length, refl, ap, sym, ◌∙◌, subst, arith, if◌then◌else◌, slice_index_or, slice_set}
use Rattle.std.proofs.lemmas.Bool.{cases_eq}
use Rattle.std.proofs.lemmas.Bool.Decides.{nat_tests}
use Rattle.std.proofs.lemmas.List.{append-nil, append_assoc, get_or-set_same, get_or-set_other, length-set, set-get_or}
use Rattle.std.specs.Prelude.{Option, Some}
use mathlib.Core.List.{IsPrefix}
use prog.Atomic.{either}
use Rattle.logbook.specs.Pages.{Book, Named, Cell, cell, keeps, no_nib, step, Moves, Goes}
use Rattle.elsa_hash_index.specs.declared.row.Event.{Event}
use Rattle.elsa_hash_index.specs.declared.row.Event.TheVariants.{Filled}
use Rattle.elsa_hash_index.specs.Row.{bits_of, builder_of, digit, first_not_0, filled_by, word_at, words_of, count_of, named_from, IsKept, Sees, Shows, Tries}
use Rattle.elsa_hash_index.specs.Words.{IsLater}
use Rattle.elsa_hash_index.proofs.DigitLemmas.{set_other, set_same}

first_none : (a : ℕ) → first_not_0 a 0 ≡ a
first_none zero = refl
first_none (suc a) = refl

first_assoc : (a b c : ℕ) → first_not_0 a (first_not_0 b c) ≡ first_not_0 (first_not_0 a b) c
first_assoc zero b c = refl
first_assoc (suc a) b c = refl

first_stays : (a b : ℕ) → 0 < a → first_not_0 a b ≡ a
first_stays zero b h = absurd (omega (arith, h))
first_stays (suc a) b h = refl

-- An index entry after a longer history.
pub value_append : {S : Type 0} (k : ℕ) (xs ys : List (Event S)) → word_at k (xs ++ ys) ≡ first_not_0 (word_at k xs) (word_at k ys)
value_append k [] ys = refl
value_append k (x ∷ xs) ys = ap (first_not_0 (filled_by k x)) (value_append k xs ys) ∙ first_assoc (filled_by k x) (word_at k xs) (word_at k ys)

-- The number of index entries is in the first event, so no later event changes it.
pub count_append : {S : Type 0} (x : Event S) (xs ys : List (Event S)) → count_of ((x ∷ xs) ++ ys) ≡ count_of (x ∷ xs)
count_append x xs ys = refl

-- A longer history leaves each index entry that isn't 0 unchanged.
pub later_at : {S : Type 0} (xs ys : List (Event S)) → IsPrefix xs ys → IsLater (λ k. word_at k xs) (λ k. word_at k ys)
later_at xs ys p k h = ap (word_at k) (sym p.1) ∙ (value_append k xs p.0 ∙ first_stays (word_at k xs) (word_at k p.0) h)

own_word : (S : Type 0) (k w : ℕ) → filled_by {S = S} k (Filled k w) ≡ w
own_word S k w = let e : (k == k) ≡ true = grind (arith, nat_tests) in ap (λ (b : Bool). if b then w else 0) e

other_word : (S : Type 0) (i k w : ℕ) → (i ≡ k → ⊥) → filled_by {S = S} k (Filled i w) ≡ 0
other_word S i k w ne = let e : (i == k) ≡ false = grind (arith, nat_tests) in ap (λ (b : Bool). if b then w else 0) e

-- A longer history has the same number of index entries.
pub count_prefix : {S : Type 0} (xs ys : List (Event S)) → IsPrefix xs ys → 0 < count_of xs → count_of ys ≡ count_of xs
count_prefix [] ys p h = absurd (omega (arith, h))
count_prefix (x ∷ xs) ys p h = ap count_of (sym p.1)

-- A longer history has the same builder of hashers.
pub builder_prefix : {S : Type 0} (xs ys : List (Event S)) (s : S) → IsPrefix xs ys → builder_of xs ≡ Some s → builder_of ys ≡ Some s
builder_prefix [] ys s p e = absurd (cc e)
builder_prefix (x ∷ xs) ys s p e = ap builder_of (sym p.1) ∙ e

count_more : {S : Type 0} (k : ℕ) (xs ys : List (Event S)) → 0 < count_of xs → count_of (xs ++ ys) ≡ count_of xs
count_more k [] ys h = absurd (omega (arith, h))
count_more k (x ∷ xs) ys h = refl

module _ {S A : Type 0} (moves : List (Event S) → List (Event S) → A → Type 0) (ask : Event S) (k : ℕ) (v : List (Event S)) (s : Option A) (some : 0 < count_of v) (lt : k < words_of (count_of v)) where
  abbrev shown : List (Event S) → List (Event S)
  shown log = []

  word_within : (cs : List Cell) (log : List (Event S)) → IsKept cs log → IsPrefix v log → k < length cs
  word_within cs log kept pre = subst (λ n. k < n) (sym (kept.whole ∙ ap words_of (count_prefix v log pre some))) lt

  -- A load leaves the word unchanged.
  pub read_moves : Moves IsKept shown moves k (v, (no_nib, s)) (λ n. n) (Sees (step k 0 0 ask) (v, (no_nib, s)))
  read_moves cs log kept pre away =
      let within : k < length cs = word_within cs log kept pre in
      let all : log ++ [] ≡ log = append-nil log in
      let same : slice_set cs k ((cell cs k).0, true) ≡ cs = ap (λ b. slice_set cs k ((cell cs k).0, b)) (sym (kept.home k within)) ∙ set-get_or cs k (0, false) in (
        within,
        kept.home k within,
        (
          keeps,
          [],
          s,
          tt,
          subst (λ l. IsKept (slice_set cs k ((cell cs k).0, true)) l) (sym all) (subst (λ c. IsKept c log) (sym same) kept),
          inl (refl, refl),
          subst (Shows k (cell cs k).0) (sym all) (kept.digits k within),
        ),
      )

  -- An exchange sets a digit that is 0 if the word is as expected.
  module _ (j x old new bits : ℕ) (pos : 0 < x) (jth : j < 8) (are : bits ≡ bits_of (count_of v) k) (free : digit bits j old ≡ 0) (fits : x < 2 ^ bits) (sum : new ≡ old + x * 2 ^ (j * bits)) where
    abbrev SetGoes : List Cell → List (Event S) → Type 0
    SetGoes cs log = Goes IsKept shown moves k (v, (no_nib, s)) (λ n. either (n == old) new n) (Tries (step k old new ask) (v, (no_nib, s))) cs log

    set_goes : (cs : List Cell) (log : List (Event S)) → IsKept cs log → k < length cs → count_of log ≡ count_of v → (b : Bool) → ((cell cs k).0 == old) ≡ b → SetGoes cs log
    set_goes cs log kept within count true is =
        let e : (cell cs k).0 ≡ old = grind (arith, nat_tests, is) in
        let more : List (Event S) = Filled (8 * k + j) x ∷ [] in
        let counted : count_of (log ++ more) ≡ count_of log = count_more k log more (omega (arith, count, some)) in
        let width : bits ≡ bits_of (count_of log) k = are ∙ ap (λ c. bits_of c k) (sym count) in
        let width_after : bits_of (count_of (log ++ more)) k ≡ bits = ap (λ c. bits_of c k) counted ∙ sym width in
        let shows : Shows k old log = subst (λ n. Shows k n log) e (kept.digits k within) in
        let was : word_at (8 * k + j) log ≡ 0 = sym (shows j jth) ∙ (ap (λ b. digit b j old) (sym width) ∙ free) in
        let own : word_at (8 * k + j) more ≡ x = ap (λ n. first_not_0 n 0) (own_word S (8 * k + j) x) ∙ first_none x in
        let now : word_at (8 * k + j) (log ++ more) ≡ x = value_append (8 * k + j) log more ∙ (ap (λ n. first_not_0 n (word_at (8 * k + j) more)) was ∙ own) in
        let others : (d : ℕ) → (d ≡ 8 * k + j → ⊥) → word_at d (log ++ more) ≡ word_at d log =
        λ d ne. value_append d log more ∙ (ap (first_not_0 (word_at d log)) (ap (λ n. first_not_0 n 0) (other_word S (8 * k + j) d x (λ same. ne (sym same)))) ∙ first_none (word_at d log)) in
        let set : (i : ℕ) → i < 8 → digit bits i new ≡ word_at (8 * k + i) (log ++ more) = λ i ith. elim (cases_eq i j) [
          | inl same ↦ ap (λ m. digit bits m new) same ∙ (ap (digit bits j) sum ∙ (set_same bits j old x free fits ∙ (sym now ∙ ap (λ m. word_at (8 * k + m) (log ++ more)) (sym same))))
          | inr ne ↦ ap (digit bits i) sum ∙ (set_other bits j i old x free fits ne ∙ (ap (λ b. digit b i old) width ∙ (shows i ith ∙ sym (others (8 * k + i) (λ same. ne (omega (arith, same)))))))
        ] in
        let after : Shows k new (log ++ more) = λ i ith. ap (λ b. digit b i new) width_after ∙ set i ith in
        let f : either ((cell cs k).0 == old) new (cell cs k).0 ≡ new = ap (λ b. either b new (cell cs k).0) is in (
          keeps,
          more,
          s,
          tt,
          subst (λ n. IsKept (slice_set cs k (n, true)) (log ++ more)) (sym f)
              (record {
                whole = length-set cs k (new, true) ∙ (kept.whole ∙ ap words_of (sym counted));
                home = λ i less. elim (cases_eq i k) [
                  | inl same ↦ ap (λ m. (cell (slice_set cs k (new, true)) m).1) same ∙ ap (λ c. c.1) (get_or-set_same cs k (new, true) (0, false) within)
                  | inr ne ↦ ap (λ c. c.1) (get_or-set_other cs k i (new, true) (0, false) ne) ∙ kept.home i (subst (λ m. i < m) (length-set cs k (new, true)) less)
                ];
                digits = λ i less. elim (cases_eq i k) [
                  | inl same ↦ subst (λ m. Shows m (cell (slice_set cs k (new, true)) m).0 (log ++ more)) (sym same)
                      (subst (λ n. Shows k n (log ++ more)) (sym (ap (λ c. c.0) (get_or-set_same cs k (new, true) (0, false) within))) after)
                  | inr ne ↦ subst (λ n. Shows i n (log ++ more)) (sym (ap (λ c. c.0) (get_or-set_other cs k i (new, true) (0, false) ne)))
                      (λ m mth. ap (λ c. digit (bits_of c i) m (cell cs i).0) counted
                      ∙ (kept.digits i (subst (λ l. i < l) (length-set cs k (new, true)) less) m mth ∙ sym (others (8 * i + m) (λ same. ne (omega (arith, same, mth, jth))))))
                ];
              }),
          inl (refl, refl),
          λ found. after,
        )
    set_goes cs log kept within count false is =
        let all : log ++ [] ≡ log = append-nil log in
        let same : slice_set cs k ((cell cs k).0, true) ≡ cs = ap (λ b. slice_set cs k ((cell cs k).0, b)) (sym (kept.home k within)) ∙ set-get_or cs k (0, false) in
        let f : either ((cell cs k).0 == old) new (cell cs k).0 ≡ (cell cs k).0 = ap (λ b. either b new (cell cs k).0) is in (
          keeps,
          [],
          s,
          tt,
          subst (λ n. IsKept (slice_set cs k (n, true)) (log ++ [])) (sym f) (subst (λ l. IsKept (slice_set cs k ((cell cs k).0, true)) l) (sym all) (subst (λ c. IsKept c log) (sym same) kept)),
          inl (refl, refl),
          λ found. absurd (grind (arith, nat_tests, is, found)),
        )

    pub set_moves : Moves IsKept shown moves k (v, (no_nib, s)) (λ n. either (n == old) new n) (Tries (step k old new ask) (v, (no_nib, s)))
    set_moves cs log kept pre away =
        let within : k < length cs = word_within cs log kept pre in
        (within, kept.home k within, set_goes cs log kept within (count_prefix v log pre some) ((cell cs k).0 == old) refl)

-- The index entries of a row.
abbrev pub named : Book → ℕ → Named
named b k = record { tracked = true; key = k; book = b }

-- Another index entry is at the end.
pub named_snoc : (b : Book) (k n : ℕ) → named_from b k (suc n) ≡ named_from b k n ++ named b (k + n) ∷ []
named_snoc b k zero = let e : k ≡ k + 0 = omega arith in ap (λ i. named b i ∷ []) e
named_snoc b k (suc n) = let e : suc k + n ≡ k + suc n = omega arith in ap (λ (l : List Named). named b k ∷ l) (named_snoc b (suc k) n ∙ ap (λ i. named_from b (suc k) n ++ named b i ∷ []) e)

-- The index entry at i has the key k + i.
pub named_at : (b : Book) (k n i : ℕ) (d : Named) → i < n → slice_index_or (named_from b k n) i d ≡ named b (k + i)
named_at b k zero i d h = absurd (omega (arith, h))
named_at b k (suc n) zero d h = let e : k ≡ k + 0 = omega arith in ap (named b) e
named_at b k (suc n) (suc i) d h = let e : suc k + i ≡ k + suc i = omega arith in named_at b (suc k) n i d (omega (arith, h)) ∙ ap (named b) e

-- Their number is n.
pub named_length : (b : Book) (k n : ℕ) → length (named_from b k n) ≡ n
named_length b k zero = refl
named_length b k (suc n) = let e = named_length b (suc k) n in omega (arith, e)

-- Another index entry.
pub named_more : (b : Book) (n k : ℕ) (xs : List Named) (w : Named) → xs ≡ named_from b 0 n → w ≡ named b k → k ≡ n → xs ++ w ∷ [] ≡ named_from b 0 (n + 1)
named_more b n k xs w all one here =
    let e : suc n ≡ n + 1 = omega arith in
    let index : k ≡ 0 + n = omega (arith, here) in
    ap (λ (l : List Named). l ++ w ∷ []) all ∙ (ap (λ v. named_from b 0 n ++ v ∷ []) (one ∙ ap (named b) index) ∙ (sym (named_snoc b 0 n) ∙ ap (named_from b 0) e))

-- A beginning of a beginning is one of the list.
pub prefix_prefix : {A : Type 0} (xs ys zs : List A) → IsPrefix xs ys → IsPrefix ys zs → IsPrefix xs zs
prefix_prefix xs ys zs p q = (p.0 ++ q.0, sym (append_assoc xs p.0 q.0) ∙ (ap (λ l. l ++ q.0) p.1 ∙ q.1))
