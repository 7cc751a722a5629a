-- What stays true of index entries that each change once, and what follows when a probe ends.
use Rattle.std.proofs.Common.{◌≡◌, ◌≢◌, ◌⊎◌, List, slice_index, ℕ, ◌+◌, ◌-◌, ◌*◌, ◌/◌, ◌%◌, ◌^◌, ◌<◌, ◌≤◌, inl, inr, Bool, true, false, ◌==◌, if◌then◌else◌, ap, subst, sym, ◌∙◌, refl, arith}
use Rattle.std.proofs.lemmas.Bool.{cases_eq, cases_lt}
use Rattle.std.proofs.lemmas.Bool.Decides.{nat_tests}
use Rattle.std.proofs.lemmas.Nat.{div_below, mod_below, mul-lt}
use Rattle.std.proofs.Math.Nat.{div-mul-le_self, lt-div-mul-add, mod-eq_of_lt, mod-eq-sub-mod, mul-le-mul_right, mul-lt-mul_of_pos_right}
use Rattle.std_collections.specs.IndexTable.Group.{IsBitSet}
use Rattle.std_collections.proofs.IndexTableLemmas.Bits.{no_bit_zero}
use Rattle.elsa_hash_index.specs.Words.{mixed, tag_of, number_of, groups_of, start, slot, walk, IsLater, IsNearStart, PassesFilled, IsIndexed}

-- The product of a hash and the number of index entries has 96 bits.
pub product_fits : (count hash : ℕ) → hash < 2 ^ 32 → count < 2 ^ 64 → hash * count < 2 ^ 128
product_fits count hash h c = let p = mul-lt hash count (2 ^ 32) (2 ^ 64) h c in omega (arith, p)

-- A probe begins at an index entry.
pub start_within : (count hash : ℕ) → hash < 2 ^ 32 → 0 < count → hash * count / 2 ^ 32 < count
start_within count hash h c = let p = mul-lt-mul_of_pos_right h c in omega (arith, p)

-- A number below the divisor is its own remainder.
pub small_mod : (n m : ℕ) → n < m → n % m ≡ n
small_mod n m h = mod-eq_of_lt h

-- A number that is less than twice the divisor has the divisor once.
pub wrapped_mod : (n m : ℕ) → m ≤ n → n < m + m → n % m ≡ n - m
wrapped_mod n m over twice = mod-eq-sub-mod over ∙ small_mod (n - m) m (omega (arith, over, twice))

-- A probe stays among the index entries.
pub walk_within : (count hash step : ℕ) → step < count → walk count hash step < count
unfolding walk
walk_within count hash step h = mod_below (start count hash + step) count (omega (arith, h))

-- Each index entry is near a start: that of the greatest hash whose probe doesn't begin after it.
pub near_start : (count at : ℕ) → at < count → IsNearStart count at
unfolding start
near_start count at lt =
    let top = (at + 1) * 2 ^ 32 - 1 in
    let hash = top / count in
    let below : hash * count ≤ top = div-mul-le_self top count in
    let above : top < hash * count + count = lt-div-mul-add (omega (arith, lt)) in
    let few : hash < 2 ^ 32 = div_below top count (2 ^ 32) (omega (arith, lt)) (let p = mul-le-mul_right (2 ^ 32) lt in omega (arith, p)) in
    (hash, few, omega (arith, below), omega (arith, below, above))

-- No tag is 0.
pub tag_positive : (hash : ℕ) → 0 < tag_of hash
unfolding tag_of
tag_positive hash = by_case (mixed hash == 0) refl
  where
    by_case : (b : Bool) → (mixed hash == 0) ≡ b → 0 < (if b then 1 else mixed hash)
    by_case true e = omega arith
    by_case false e = grind (arith, nat_tests, e)

-- Unchanged digits are later ones.
pub later_same : (f : ℕ → ℕ) → IsLater f f
later_same f i h = refl

-- Two changes are one change.
pub later_later : (f g h : ℕ → ℕ) → IsLater f g → IsLater g h → IsLater f h
later_later f g h a b i lt = let e = a i lt in b i (omega (arith, e, lt)) ∙ e

-- A probe that continues for a number of steps still does later.
pub later_goes_on : (count : ℕ) (f g : ℕ → ℕ) (hash step : ℕ) → IsLater f g → PassesFilled count f hash step → PassesFilled count g hash step
later_goes_on count f g hash step later on k lane lt small = let h = on k lane lt small in let e = later (slot count hash k lane) h in omega (arith, e, h)

-- An index that is found is still found later.
pub later_indexed : (count : ℕ) (f g : ℕ → ℕ) (hash index : ℕ) → IsLater f g → IsIndexed count f hash index → IsIndexed count g hash index
later_indexed count f g hash index later i = record {
  step = i.step;
  lane = i.lane;
  within = i.within;
  in_group = i.in_group;
  tagged = later (slot count hash i.step i.lane) (let e = i.tagged in let pos = tag_positive hash in omega (arith, e, pos)) ∙ i.tagged;
  there = later (number_of count (slot count hash i.step i.lane)) (let e = i.there in omega (arith, e)) ∙ i.there;
  goes_on = later_goes_on count f g hash i.step later i.goes_on;
}

-- M holds for each index that an index entry of one of the first `step` groups of a probe had, with
-- the tag of the hash.
abbrev pub Missed : ℕ → (ℕ → ℕ) → ℕ → (ℕ → Type 0) → ℕ → Type 0
Missed count words hash M step = (k lane : ℕ) → k < step → lane < 16 → (index : ℕ) → words (slot count hash k lane) ≡ tag_of hash → words (number_of count (slot count hash k lane)) ≡ index + 1 → M index

-- What is 0 later was 0 before.
pub zero_before : (f g : ℕ → ℕ) (i : ℕ) → IsLater f g → g i ≡ 0 → f i ≡ 0
zero_before f g i later zero = elim (cases_lt 0 (f i)) [
  | inl pos ↦ let e = later i pos in absurd (omega (arith, e, zero, pos))
  | inr none ↦ omega (arith, none)
]

-- A probe that reaches a group with a 0 has passed each index that is entered under its hash, or is at
-- its group.
passed_at_zero : (count : ℕ) (words : ℕ → ℕ) (hash index step lane : ℕ) → lane < 16 → words (slot count hash step lane) ≡ 0 → (i : IsIndexed count words hash index) → i.step < step + 1
passed_at_zero count words hash index step lane small zero i = elim (cases_lt i.step (step + 1)) [
  | inl lt ↦ lt
  | inr ge ↦ let h = i.goes_on step lane (omega (arith, ge)) small in absurd (omega (arith, h, zero))
]

-- So M holds for each of these indices, if the last group of the probe has a 0 now or later.
pub absent_at_zero : (count : ℕ) (before after : ℕ → ℕ) (hash step lane : ℕ) (M : ℕ → Type 0) → IsLater before after → lane < 16 → after (slot count hash step lane) ≡ 0
    → Missed count before hash M (step + 1) → (index : ℕ) → IsIndexed count before hash index → M index
absent_at_zero count before after hash step lane M later small zero missed index i =
    missed i.step i.lane (passed_at_zero count before hash index step lane small (zero_before before after (slot count hash step lane) later zero) i) i.in_group index i.tagged i.there

-- M also holds for each of them if the probe reached all groups.
pub absent_at_end : (count : ℕ) (words : ℕ → ℕ) (hash step : ℕ) (M : ℕ → Type 0) → groups_of count ≤ step → Missed count words hash M step
    → (index : ℕ) → IsIndexed count words hash index → M index
absent_at_end count words hash step M all missed index i = missed i.step i.lane (let h = i.within in omega (arith, h)) i.in_group index i.tagged i.there

-- The probe passed another group.
pub missed_more : (count : ℕ) (words : ℕ → ℕ) (hash step : ℕ) (M : ℕ → Type 0) → Missed count words hash M step
    → ((lane : ℕ) → lane < 16 → (index : ℕ) → words (slot count hash step lane) ≡ tag_of hash → words (number_of count (slot count hash step lane)) ≡ index + 1 → M index) → Missed count words hash M (step + 1)
missed_more count words hash step M missed here k lane lt small index tag there = elim (cases_eq k step) [
  | inl same ↦ here lane small index (ap (λ n. words (slot count hash n lane)) (sym same) ∙ tag) (ap (λ n. words (number_of count (slot count hash n lane))) (sym same) ∙ there)
  | inr other ↦ missed k lane (omega (arith, lt, other)) small index tag there
]

-- The probe continues past another group.
pub filled_more : (count : ℕ) (words : ℕ → ℕ) (hash step : ℕ) → PassesFilled count words hash step → ((lane : ℕ) → lane < 16 → 0 < words (slot count hash step lane)) → PassesFilled count words hash (step + 1)
filled_more count words hash step on here k lane lt small = elim (cases_eq k step) [
  | inl same ↦ let h = here lane small in let e = ap (λ n. words (slot count hash n lane)) same in omega (arith, h, e)
  | inr other ↦ on k lane (omega (arith, lt, other)) small
]

-- Of the sixteen lanes of a group, those with a property have their bits in `same`, or M holds for
-- them.
pub record Untried (Has : ℕ → Type 0) (same : ℕ) (M : ℕ → Type 0) : Type 0 where
  pub only : (k : ℕ) → IsBitSet same k → k < 16
  pub others : (k : ℕ) → k < 16 → Has k → IsBitSet same k ⊎ M k

-- One of them was tried.
pub tried_one : (Has : ℕ → Type 0) (same rest first : ℕ) (M N : ℕ → Type 0) → Untried Has same M → ((k : ℕ) → IsBitSet rest k → IsBitSet same k)
    → ((k : ℕ) → IsBitSet same k → k ≢ first → IsBitSet rest k) → ((k : ℕ) → M k → N k) → N first → Untried Has rest N
tried_one Has same rest first M N left only others more here = record {
  only = λ k set. left.only k (only k set);
  others = λ k lt is. elim (left.others k lt is) [
    | inl set ↦ elim (cases_eq k first) [
      | inl e ↦ inr (subst N (sym e) here)
      | inr ne ↦ inl (others k set ne)
    ]
    | inr done ↦ inr (more k done)
  ];
}

-- All of them were tried.
pub tried_all : (Has : ℕ → Type 0) (same : ℕ) (M : ℕ → Type 0) → Untried Has same M → same ≡ 0 → (k : ℕ) → k < 16 → Has k → M k
tried_all Has same M left none k lt is = elim (left.others k lt is) [
  | inl set ↦ absurd (no_bit_zero k (subst (λ n. IsBitSet n k) none set))
  | inr done ↦ done
]

-- Another index is entered, after the earlier ones.
pub more_indexed : (Under : ℕ → ℕ → Type 0) (count after : ℕ) (f g : ℕ → ℕ) (n hash : ℕ) → after ≡ count → IsLater f g
    → ((p : ℕ) → p < n → (h : ℕ) × Under p h × IsIndexed count f h p) → Under n hash → IsIndexed after g hash n
    → (p : ℕ) → p < n + 1 → (h : ℕ) × Under p h × IsIndexed after g h p
more_indexed Under count after f g n hash same later all under last p lt = elim (cases_eq p n) [
  | inl here ↦ (hash, subst (λ k. Under k hash) (sym here) under, subst (λ k. IsIndexed after g hash k) (sym here) last)
  | inr other ↦ let old = all p (omega arith) in (old.0, old.1, subst (λ c. IsIndexed c g old.0 p) (sym same) (later_indexed count f g old.0 p later old.2))
]

-- A digit that was set has its value later.
pub still : (f g : ℕ → ℕ) (i v : ℕ) → IsLater f g → f i ≡ v → 0 < v → g i ≡ v
still f g i v later is pos = later i (omega (arith, is, pos)) ∙ is

-- The index entry of a lane of the group that a probe reached.
pub slot_is : (count len groups hash step group : ℕ) → len ≡ count → groups ≡ groups_of len → group ≡ walk groups hash step → (lane : ℕ) → 16 * group + lane ≡ slot count hash step lane
slot_is count len groups hash step group all some here lane =
    let same : groups ≡ groups_of count = some ∙ ap (λ n. groups_of n) all in
    ap (λ n. 16 * n + lane) (here ∙ ap (λ n. walk n hash step) same)

pub entry_within : (count later groups group lane : ℕ) → group < groups → groups ≡ groups_of count → later ≡ count → lane < 16 → 16 * group + lane < 16 * groups_of later
entry_within count later groups group lane within is same small = omega (arith, within, is, same, small)

-- The tags of the hash in the group that the probe reached were tried, and there are none but those in
-- `tags`.
pub missed_group : (count : ℕ) (before now : ℕ → ℕ) (tags : List ℕ) (tag same hash step group : ℕ) (M : ℕ → Type 0) → IsLater before now
    → ((lane : ℕ) → lane < 16 → 0 < now (16 * group + lane) → slice_index tags lane ≡ now (16 * group + lane)) → ((lane : ℕ) → 16 * group + lane ≡ slot count hash step lane)
    → tag ≡ tag_of hash → Untried (λ k. slice_index tags k ≡ tag) same (λ k. (index : ℕ) → before (number_of count (16 * group + k)) ≡ index + 1 → M index) → same ≡ 0
    → Missed count before hash M step → Missed count before hash M (step + 1)
missed_group count before now tags tag same hash step group M later known at is left none missed =
    missed_more count before hash step M missed (λ lane small index tagged there.
    let here = still before now (16 * group + lane) (tag_of hash) later (ap before (at lane) ∙ tagged) (tag_positive hash) in
    let has = known lane small (subst (λ n. 0 < n) (sym here) (tag_positive hash)) ∙ (here ∙ sym is) in
    tried_all (λ k. slice_index tags k ≡ tag) same (λ k. (i : ℕ) → before (number_of count (16 * group + k)) ≡ i + 1 → M i) left none lane small has index
    (ap (λ n. before (number_of count n)) (at lane) ∙ there))

-- A tag that is loaded as 0 was 0.
pub loaded_zero : (now : ℕ → ℕ) (tag at : ℕ) → (0 < now at → tag ≡ now at) → tag ≡ 0 → now at ≡ 0
loaded_zero now tag at known zero = elim (cases_lt 0 (now at)) [
  | inl pos ↦ let e = known pos in absurd (omega (arith, e, zero, pos))
  | inr none ↦ omega (arith, none)
]
