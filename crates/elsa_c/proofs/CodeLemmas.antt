-- The codes of the texts of a block, text by text.
use Rattle.std.proofs.Common.{◌≡◌, ℕ, ◌<◌, ◌≤◌, ◌⊎◌, List, [], ◌∷◌, ◌++◌, suc, set, length, position, slice_get, refl, ap, subst, sym, ◌∙◌, append-nil, arith, Option, None, Some, MatchOption, inl, inr}
use mathlib.Core.List.{IsPrefix}
use Rattle.std.proofs.lemmas.Bool.{cases_lt}
use Rattle.std.proofs.lemmas.List.{append_assoc, length-append, length-set, get_or-set_same, get_or-set_other}
use Rattle.std.proofs.lemmas.List.Quantifiers.{position-Some}
use Rattle.std.proofs.lemmas.Option.{slice_get-get_or, slice_get_cases, slice_get_past}
use Rattle.std.specs.Str.{bytes_eq}
use Rattle.elsa_interner.specs.Names.{Puts}
use Rattle.elsa_interner.proofs.NameLemmas.{at_index, kept_put, stands_put}
use Rattle.elsa_c.specs.Codes.{IsBefore, IsFactorized, IsFirsts, IsInOrder, PutsAll}

abbrev from_some : {X : Type 0} → X → Option X → X
from_some d None = d
from_some d (Some x) = x

some_equal : {X : Type 0} (a b : X) → Some a ≡ Some b → a ≡ b
some_equal a b e = ap (from_some a) e

-- what is read at an index that was written, and at another
get_set_same : (xs : List ℕ) (i v : ℕ) → i < length xs → slice_get (set xs i v) i ≡ Some v
get_set_same xs i v lt = slice_get-get_or (set xs i v) i 0 (omega (arith, lt, length-set xs i v)) ∙ ap Some (get_or-set_same xs i v 0 lt)

get_set_other : (xs : List ℕ) (i j v : ℕ) → (j ≡ i → ⊥) → slice_get (set xs i v) j ≡ slice_get xs j
get_set_other xs i j v other = elim ((slice_get_cases xs j).1) [
  | inl h ↦ slice_get-get_or (set xs i v) j 0 (omega (arith, h.1, length-set xs i v)) ∙ ap Some (get_or-set_other xs i j v 0 other) ∙ sym (slice_get-get_or xs j 0 h.1)
  | inr h ↦ slice_get_past (set xs i v) j (omega (arith, h.0, length-set xs i v)) ∙ sym h.1
]

-- a code that is written later leaves the earlier ones
before_set : (codes : List ℕ) (n m code d : ℕ) → m ≤ n → IsBefore codes m d → IsBefore (set codes n code) m d
before_set codes n m code d le b = (b.0, b.1, get_set_other codes n b.0 code (λ e. omega (arith, e, b.1, le)) ∙ b.2)

-- no text yet
pub puts_none : (text : ℕ → List ℕ) (names : List (List ℕ)) (codes : List ℕ) → PutsAll text 0 names names codes codes
puts_none text names codes = record {
  coded = λ i lt. absurd (omega (arith, lt));
  kept = ([], append-nil names);
  only = λ d lt. inl lt;
  earlier = λ i c d lt at less. absurd (omega (arith, lt));
  rest = λ i le. refl;
}

-- the index of a text is below the next number, and what the names are then
number_within : (names : List (List ℕ)) (text : List ℕ) (code : ℕ) (after : List (List ℕ)) → Puts names text code after → code ≤ length names
number_within names text code after h = by (position (bytes_eq text) names) refl h
  where
    by : (o : Option ℕ) → position (bytes_eq text) names ≡ o → MatchOption o ((code ≡ length names) × (after ≡ names ++ text ∷ [])) (λ i. (code ≡ i) × (after ≡ names)) → code ≤ length names
    by None at g = omega (arith, g.0)
    by (Some i) at g = omega (arith, g.0, (position-Some (bytes_eq text) names i [] at).0)

-- a name is one of those before, or the one that was put
name_before : (names : List (List ℕ)) (text : List ℕ) (code d : ℕ) (after : List (List ℕ)) → Puts names text code after → d < length after → (d < length names) ⊎ (code ≡ d)
name_before names text code d after h lt = by (position (bytes_eq text) names) h
  where
    by : (o : Option ℕ) → MatchOption o ((code ≡ length names) × (after ≡ names ++ text ∷ [])) (λ i. (code ≡ i) × (after ≡ names)) → (d < length names) ⊎ (code ≡ d)
    by None g = elim (cases_lt d (length names)) [
      | inl less ↦ inl less
      | inr ge ↦ inr (omega (arith, g.0, ge, lt, ap length g.1, length-append names (text ∷ [])))
    ]
    by (Some i) g = inl (omega (arith, lt, ap length g.1))

prefix_after : {X : Type 0} (a b c : List X) → IsPrefix a b → IsPrefix b c → IsPrefix a c
prefix_after a b c p q = (p.0 ++ q.0, sym (append_assoc a p.0 q.0) ∙ ap (λ l. l ++ q.0) p.1 ∙ q.1)

-- the next text has its code
pub puts_next : (text : ℕ → List ℕ) (n : ℕ) (before now after : List (List ℕ)) (old codes : List ℕ) (code : ℕ) → PutsAll text n before now old codes → n < length codes
    → Puts now (text n) code after → ((word : List ℕ) (i : ℕ) → position (bytes_eq word) now ≡ Some i → position (bytes_eq word) after ≡ Some i)
    → PutsAll text (suc n) before after old (set codes n code)
puts_next text n before now after old codes code p lt put kept_at = record {
  coded = λ i less. elim (cases_lt i n) [
    | inl below ↦
        let read = slice_get-get_or codes i 0 (omega (arith, below, lt)) in
        get_set_other codes n i code (λ e. omega (arith, e, below)) ∙ read ∙ sym (kept_at (text i) _ (sym (p.coded i below) ∙ read))
    | inr ge ↦
        let here : n ≡ i = omega (arith, ge, less) in
        subst (λ k. slice_get (set codes n code) k ≡ position (bytes_eq (text k)) after) here (get_set_same codes n code lt ∙ sym (stands_put now (text n) code after put))
  ];
  kept = prefix_after before now after p.kept (kept_put now (text n) code after put);
  only = λ d less. elim (name_before now (text n) code d after put less) [
    | inl older ↦ elim (p.only d older) [
      | inl first ↦ inl first
      | inr b ↦ inr (b.0, omega (arith, b.1), get_set_other codes n b.0 code (λ e. omega (arith, e, b.1)) ∙ b.2)
    ]
    | inr same ↦ inr (n, omega arith, get_set_same codes n code lt ∙ ap Some same)
  ];
  earlier = λ i c d less at smaller. elim (cases_lt i n) [
    | inl below ↦ elim (p.earlier i c d below (sym (get_set_other codes n i code (λ e. omega (arith, e, below))) ∙ at) smaller) [
      | inl first ↦ inl first
      | inr b ↦ inr (before_set codes n i code d (omega (arith, below)) b)
    ]
    | inr ge ↦
        let here : n ≡ i = omega (arith, ge, less) in
        let same : code ≡ c = some_equal _ _ (sym (get_set_same codes n code lt) ∙ ap (slice_get (set codes n code)) here ∙ at) in
        elim (p.only d (omega (arith, same, smaller, number_within now (text n) code after put))) [
          | inl first ↦ inl first
          | inr b ↦ inr (subst (λ k. IsBefore (set codes n code) k d) here (before_set codes n n code d (omega arith) b))
        ]
  ];
  rest = λ i le. get_set_other codes n i code (λ e. omega (arith, e, le)) ∙ p.rest i (omega (arith, le));
}

-- over no names at first, the codes are those of the texts alone
pub factorized : (text : ℕ → List ℕ) (n : ℕ) (after : List (List ℕ)) (old new : List ℕ) → n ≤ length new → PutsAll text n [] after old new → IsFactorized text n old new
factorized text n after old new within p = record {
  equal = λ i j lt_i lt_j. (
    λ same.
        let read = slice_get-get_or new i 0 (omega (arith, lt_i, within)) in
        let at_i = at_index after (text i) _ (sym (p.coded i lt_i) ∙ read) in
        let at_j = at_index after (text j) _ (sym (p.coded j lt_j) ∙ sym same ∙ read) in
        some_equal _ _ (sym at_i ∙ at_j),
    λ same. p.coded i lt_i ∙ ap (λ t. position (bytes_eq t) after) same ∙ sym (p.coded j lt_j),
  );
  order = λ i c d lt at less. elim (p.earlier i c d lt at less) [
    | inl none ↦ absurd (omega (arith, none))
    | inr b ↦ b
  ];
  rest = p.rest;
}

-- of codes in order, the first n are below the count
abbrev pub AreBelow : List ℕ → ℕ → ℕ → Type 0
AreBelow codes n count = IsInOrder codes → (j c : ℕ) → j < n → slice_get codes j ≡ Some c → c < count

-- a new code is noted
pub firsts_next : (codes firsts : List ℕ) (count at : ℕ) → count < length firsts → slice_get codes at ≡ Some count → IsFirsts codes count firsts → IsFirsts codes (suc count) (set firsts count at)
firsts_next codes firsts count at lt here old d less = elim (cases_lt d count) [
  | inl below ↦ let o = old d below in (o.0, get_set_other firsts count d at (λ e. omega (arith, e, below)) ∙ o.1, o.2)
  | inr ge ↦
      let same : count ≡ d = omega (arith, ge, less) in
      (at, subst (λ k. slice_get (set firsts count at) k ≡ Some at) same (get_set_same firsts count at lt), here ∙ ap Some same)
]

-- the codes seen are below the count after a new code, and after one that is not the next
pub below_new : (codes : List ℕ) (at count : ℕ) → slice_get codes at ≡ Some count → AreBelow codes at count → AreBelow codes (suc at) (suc count)
below_new codes at count here old order j c less read = elim (cases_lt j at) [
  | inl below ↦ omega (arith, old order j c below read)
  | inr ge ↦
      let same : at ≡ j = omega (arith, ge, less) in
      omega (arith, some_equal _ _ (sym here ∙ ap (slice_get codes) same ∙ read))
]

pub below_known : (codes : List ℕ) (at count code : ℕ) → slice_get codes at ≡ Some code → (code ≡ count → ⊥) → AreBelow codes at count → AreBelow codes (suc at) count
below_known codes at count code here other old order j c less read = elim (cases_lt j at) [
  | inl below ↦ old order j c below read
  | inr ge ↦
      let same : at ≡ j = omega (arith, ge, less) in
      let equal : code ≡ c = some_equal _ _ (sym here ∙ ap (slice_get codes) same ∙ read) in
      elim (cases_lt c count) [
        | inl below ↦ below
        | inr above ↦ elim (cases_lt count c) [
          | inl past ↦ let b = order at c count (here ∙ ap Some equal) past in absurd (omega (arith, old order b.0 count b.1 b.2))
          | inr end ↦ absurd (other (omega (arith, equal, above, end)))
        ]
      ]
]

-- what is noted of the first codes
abbrev pub AreNoted : List ℕ → ℕ → ℕ → ℕ → List ℕ → Type 0
AreNoted codes room at count firsts = (count ≤ length firsts) × (length firsts ≡ room) × IsFirsts codes count firsts × AreBelow codes at count

pub noted_new : (codes : List ℕ) (room at count : ℕ) (firsts : List ℕ) → AreNoted codes room at count firsts → count < length firsts → slice_get codes at ≡ Some count
    → AreNoted codes room (suc at) (suc count) (set firsts count at)
noted_new codes room at count firsts old lt here =
    let same = length-set firsts count at in
    (omega (arith, lt, same), same ∙ old.1, firsts_next codes firsts count at lt here old.2, below_new codes at count here old.3)

pub noted_known : (codes : List ℕ) (room at count code : ℕ) (firsts : List ℕ) → AreNoted codes room at count firsts → slice_get codes at ≡ Some code → (code ≡ count → ⊥)
    → AreNoted codes room (suc at) count firsts
noted_known codes room at count code firsts old here other = (old.0, old.1, old.2, below_known codes at count code here other old.3)
