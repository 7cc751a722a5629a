-- The groups that a probe visits, and the buckets that a write leaves unchanged.
use Rattle.std.proofs.Common.{◌≡◌, ◌≢◌, ℕ, ◌+◌, ◌-◌, ◌/◌, ◌%◌, ◌^◌, ◌<◌, ◌≤◌, ◌⊎◌, bit_and, inl, inr, List, [], ◌∷◌, ◌++◌, length, get_or, slice_get, Some, ap, subst, sym, ◌∙◌, arith}
use Rattle.std.proofs.Math.ListN.{set, length-set, get_or-replicate}
use Rattle.std.proofs.lemmas.List.{length-append, get_or-set_same, get_or-set_other, get_or_append_left, get_or_default, get_or_push}
use Rattle.std.proofs.lemmas.Bool.{cases_eq, cases_lt}
use Rattle.std.specs.Int.{w64, trailing_zeros}
use Rattle.std.specs.Int.Count.{trailing_of_zero}
use Rattle.std.proofs.lemmas.Nat.{and_le_r}
use Rattle.std.proofs.lemmas.Nat.Bits.{bit_at-trailing_zeros}
use Rattle.std.proofs.lemmas.Option.{same_Some, slice_get_cases, slice_get_within, slice_get-get_or, get_or_from_slice_get}
use Rattle.std_collections.specs.IndexTable.Group.{IsBitSet}
use Rattle.std_collections.proofs.IndexTableLemmas.Bits.{bit_and_lem, bit_trailing_zeros, bits_from_and, no_bit_zero, twelve_set}
use Rattle.elsa_buckets.specs.declared.groups.Group.{Group}
use Rattle.elsa_buckets.specs.declared.groups.Bucket.{Bucket}
use Rattle.elsa_buckets.specs.Groups.{hash_tag, empty_group, tag_in, number_in, group_at, walk, probed, AllTakenBelow, PassesFull, Reaches, EndsAt, Stores, StoresAll, Fills, Indexes}

-- A probe stays among the groups.
pub walk_within : (count hash step : ℕ) → step < count → walk count hash step < count
unfolding walk
walk_within count hash step h = omega (arith, and_le_r ((hash + step) % 2 ^ 64) (count - 1))

-- No hash has the tag of a free bucket.
pub hash_tag_pos : (hash : ℕ) → 0 < hash_tag hash
unfolding hash_tag
hash_tag_pos hash = omega arith

-- After a push, an item of the list is an earlier item or the pushed one.
pub split_last : {X : Type 0} (xs : List X) (x : X) (i : ℕ) (y : X) → slice_get (xs ++ x ∷ []) i ≡ Some y → (slice_get xs i ≡ Some y) ⊎ ((i ≡ length xs) × (x ≡ y))
split_last xs x i y there = elim ((slice_get_cases xs i).1) [
  | inl h ↦ inl (slice_get-get_or xs i y h.1 ∙ ap Some (sym (get_or_append_left xs (x ∷ []) y i h.1) ∙ get_or_from_slice_get (xs ++ x ∷ []) i y y there))
  | inr h ↦
      let within = slice_get_within (xs ++ x ∷ []) i y there in
      let last : i ≡ length xs = omega (arith, h.0, within, length-append xs (x ∷ [])) in
      inr (last, sym (get_or_push xs x y i (sym last)) ∙ get_or_from_slice_get (xs ++ x ∷ []) i y y there)
]

-- The group that was read is the one that the probe reached.
pub read_group : (groups : List Group) (hash step at : ℕ) (d : Group) → at < length groups → at ≡ walk (length groups) hash step → get_or groups at d ≡ probed groups hash step
read_group groups hash step at d within there = get_or_default groups at d empty_group within ∙ ap (group_at groups) there

-- A probe continues past a group without a free bucket.
pub passes_full : (groups : List Group) (hash step : ℕ) → PassesFull groups hash step → ((k : ℕ) → k < 12 → tag_in (probed groups hash step) k ≢ 0) → PassesFull groups hash (step + 1)
passes_full groups hash step on none k lt lane small = elim (cases_lt k step) [
  | inl lower ↦ on k lower lane small
  | inr ge ↦
      let e : step ≡ k = omega arith in
      subst (λ n. 0 < tag_in (probed groups hash n) lane) e (omega (arith, none lane small))
]

-- The same, where bit k of `free` is set if bucket k is free.
pub passes_next : (groups : List Group) (hash step free : ℕ) → PassesFull groups hash step → free ≡ 0 → ((k : ℕ) → k < 12 → tag_in (probed groups hash step) k ≡ 0 → IsBitSet free k)
    → PassesFull groups hash (step + 1)
passes_next groups hash step free on none all = passes_full groups hash step on (λ lane small zero. no_bit_zero lane (subst (λ n. IsBitSet n lane) none (all lane small zero)))

-- Of sixteen tags that are compared, the lowest twelve bits are those of buckets.
module _ (raw : ℕ) (fits : raw < 2 ^ 64) (Has : ℕ → Type 0) (only : (k : ℕ) → IsBitSet (bit_and raw 4095) k → (k < 12) × Has k)
    (all : (k : ℕ) → k < 12 → Has k → IsBitSet (bit_and raw 4095) k) where
  pub lowest_has : trailing_zeros w64 raw < 12 → Has (trailing_zeros w64 raw)
  lowest_has small = elim (cases_eq raw 0) [
    | inl zero ↦ let none : trailing_zeros w64 raw ≡ 64 = ap (trailing_zeros w64) zero ∙ trailing_of_zero 64 in absurd (omega (arith, small, none))
    | inr some ↦ (only (trailing_zeros w64 raw) (bit_and_lem raw 4095 (trailing_zeros w64 raw) (bit_trailing_zeros 64 raw (omega (arith, some)) fits) (twelve_set (trailing_zeros w64 raw) small))).1
  ]

  pub none_has : 12 ≤ trailing_zeros w64 raw → (k : ℕ) → k < 12 → Has k → ⊥
  unfolding IsBitSet
  none_has behind k small has =
      let set = (bits_from_and raw 4095 k (all k small has)).0 in
      elim (cases_eq raw 0) [
        | inl zero ↦ no_bit_zero k (subst (λ n. IsBitSet n k) zero set)
        | inr some ↦
            let clear : raw / 2 ^ k % 2 ≡ 0 = (bit_at-trailing_zeros w64 raw (omega (arith, some)) fits).2 k (omega (arith, small, behind)) in
            omega (arith, set, clear)
      ]

-- The bucket of an index is taken.
stores_taken : (groups : List Group) (hash index : ℕ) (s : Stores groups hash index) → 0 < tag_in (group_at groups s.at) s.lane
stores_taken groups hash index s = subst (λ t. 0 < t) (sym s.tag) (hash_tag_pos hash)

-- A bucket with the tag of a hash has the index of an entry.
pub index_within : (groups : List Group) (hashes : List ℕ) → Indexes groups hashes → (at lane tag hash index : ℕ) (d : Group) → at < length groups → (lane < 12) × (tag_in (get_or groups at d) lane ≡ tag)
    → tag ≡ hash_tag hash → index ≡ number_in (get_or groups at d) lane → index < length hashes
index_within groups hashes indexes at lane tag hash index d within found is_tag there =
    let read = get_or_default groups at d empty_group within in
    let taken : 0 < tag_in (group_at groups at) lane = subst (λ t. 0 < t) (sym (ap (λ g. tag_in g lane) (sym read) ∙ found.1 ∙ is_tag)) (hash_tag_pos hash) in
    subst (λ n. n < length hashes) (sym (there ∙ ap (λ g. number_in g lane) read)) (indexes.only at lane within found.0 taken)

-- A free bucket is filled with an index.
module _ (groups : List Group) (hash index : ℕ) (bucket : Bucket) (ends : EndsAt groups hash bucket) (group : Group) (fills : Fills (group_at groups bucket.group) bucket.lane hash index group) where
  abbrev after : List Group
  after = set groups bucket.group group

  same_length : length after ≡ length groups
  same_length = length-set groups bucket.group group

  written : group_at after bucket.group ≡ group
  written = get_or-set_same groups bucket.group group empty_group ends.within

  -- The content of a bucket is as before.
  abbrev IsSame : ℕ → ℕ → Type 0
  IsSame i lane = (tag_in (group_at after i) lane ≡ tag_in (group_at groups i) lane) × (number_in (group_at after i) lane ≡ number_in (group_at groups i) lane)

  other_lane : (lane : ℕ) → lane ≢ bucket.lane → IsSame bucket.group lane
  other_lane lane ne = (ap (λ g. tag_in g lane) written ∙ fills.other_tags lane ne, ap (λ g. number_in g lane) written ∙ fills.other_numbers lane ne)

  other_group : (i lane : ℕ) → i ≢ bucket.group → IsSame i lane
  other_group i lane ne =
      let same : group_at after i ≡ group_at groups i = get_or-set_other groups bucket.group i group empty_group ne in
      (ap (λ g. tag_in g lane) same, ap (λ g. number_in g lane) same)

  -- A taken bucket is another bucket.
  taken_stays : (i lane : ℕ) → 0 < tag_in (group_at groups i) lane → IsSame i lane
  taken_stays i lane taken = elim (cases_eq i bucket.group) [
    | inl same ↦
        let here : 0 < tag_in (group_at groups bucket.group) lane = subst (λ n. 0 < tag_in (group_at groups n) lane) same taken in
        subst (λ n. IsSame n lane) (sym same)
        (other_lane lane (λ e. let zero : tag_in (group_at groups bucket.group) lane ≡ 0 = ap (tag_in (group_at groups bucket.group)) e ∙ ends.vacant in omega (arith, here, zero)))
    | inr other ↦ other_group i lane other
  ]

  passes_stays : (h step : ℕ) → PassesFull groups h step → PassesFull after h step
  passes_stays h step on k lt lane small =
      let taken = on k lt lane small in
      subst (λ n. 0 < tag_in (group_at after (walk n h k)) lane) (sym same_length) (subst (λ t. 0 < t) (sym (taken_stays (walk (length groups) h k) lane taken).0) taken)

  reaches_stays : (h i : ℕ) → Reaches groups h i → Reaches after h i
  reaches_stays h i way = record {
    step = way.step;
    within = subst (λ n. way.step < n) (sym same_length) way.within;
    there = ap (λ n. walk n h way.step) same_length ∙ way.there;
    goes_on = passes_stays h way.step way.goes_on;
  }

  pub stores_stays : (h n : ℕ) → Stores groups h n → Stores after h n
  stores_stays h n s =
      let kept = taken_stays s.at s.lane (stores_taken groups h n s) in
      record { at = s.at; lane = s.lane; in_group = s.in_group; tag = kept.0 ∙ s.tag; number = kept.1 ∙ s.number; reached = reaches_stays h s.at s.reached }

  pub stores_new : Stores after hash index
  stores_new = record {
    at = bucket.group;
    lane = bucket.lane;
    in_group = ends.in_group;
    tag = ap (λ g. tag_in g bucket.lane) written ∙ fills.tag;
    number = ap (λ g. number_in g bucket.lane) written ∙ fills.number;
    reached = reaches_stays hash bucket.group ends.reached;
  }

  pub taken_below : (count : ℕ) → index < count → AllTakenBelow groups count → AllTakenBelow after count
  taken_below count below old i lt lane small taken =
      let kept : IsSame i lane → number_in (group_at after i) lane < count
      = λ same. omega (arith, same.1, old i (subst (λ n. i < n) same_length lt) lane small (subst (λ t. 0 < t) same.0 taken)) in
      elim (cases_eq i bucket.group) [
        | inl here ↦ elim (cases_eq lane bucket.lane) [
          | inl there ↦
              let new : number_in (group_at after i) lane ≡ index
              = ap (λ n. number_in (group_at after n) lane) here ∙ ap (number_in (group_at after bucket.group)) there ∙ ap (λ g. number_in g bucket.lane) written ∙ fills.number in
              omega (arith, new, below)
          | inr other ↦ kept (subst (λ n. IsSame n lane) (sym here) (other_lane lane other))
        ]
        | inr other ↦ kept (other_group i lane other)
      ]

-- A free bucket is filled with the next index.
module _ (groups : List Group) (hashes : List ℕ) (hash : ℕ) (bucket : Bucket) (ends : EndsAt groups hash bucket) (group : Group)
    (fills : Fills (group_at groups bucket.group) bucket.lane hash (length hashes) group) where
  abbrev filled : List Group
  filled = set groups bucket.group group

  -- The groups have the next index, and the earlier ones.
  pub indexes_push : Indexes groups hashes → Indexes filled (hashes ++ hash ∷ [])
  indexes_push indexes = record {
    stored = λ i h at. elim (split_last hashes hash i h at) [
      | inl earlier ↦ stores_stays groups hash (length hashes) bucket ends group fills h i (indexes.stored i h earlier)
      | inr last ↦ subst (λ n. Stores filled h n) (sym last.0) (subst (λ x. Stores filled x (length hashes)) last.1 (stores_new groups hash (length hashes) bucket ends group fills))
    ];
    only = λ i lane lt small.
        let grown : length (hashes ++ hash ∷ []) ≡ length hashes + 1 = length-append hashes (hash ∷ []) in
        taken_below groups hash (length hashes) bucket ends group fills (length (hashes ++ hash ∷ [])) (omega (arith, grown))
        (λ j within k below taken. omega (arith, grown, indexes.only j k within below taken)) i lt lane small;
  }

-- The groups that have each index of other groups, which have the index of each hash, have that too.
pub indexes_all : (old groups : List Group) (hashes : List ℕ) → Indexes old hashes → ((i : ℕ) → i < length old → StoresAll groups hashes (group_at old i) 12) → AllTakenBelow groups (length hashes)
    → Indexes groups hashes
indexes_all old groups hashes indexes all below = record {
  stored = λ i hash has.
      let s = indexes.stored i hash has in
      let within : s.at < length old = subst (λ n. n < length old) s.reached.there (walk_within (length old) hash s.reached.step s.reached.within) in
      subst (Stores groups hash) s.number (all s.at within s.lane hash s.in_group (stores_taken old hash i s) (ap (slice_get hashes) s.number ∙ has));
  only = λ i lane lt small taken. below i lt lane small taken;
}

-- The index in the next bucket of a group is stored too.
pub stores_next : (before next : List Group) (hashes : List ℕ) (from : Group) (lane hash : ℕ) → StoresAll before hashes from lane → ((h n : ℕ) → Stores before h n → Stores next h n)
    → slice_get hashes (number_in from lane) ≡ Some hash → Stores next hash (number_in from lane) → StoresAll next hashes from (lane + 1)
stores_next before next hashes from lane hash done stays known new k h lt taken has = elim (cases_lt k lane) [
  | inl lower ↦ stays h (number_in from k) (done k h lower taken has)
  | inr ge ↦
      let e : lane ≡ k = omega arith in
      let same : ◌≡◌ {A = ℕ} hash h = same_Some hash h (sym known ∙ ap (λ n. slice_get hashes (number_in from n)) e ∙ has) in
      subst (λ n. Stores next h (number_in from n)) e (subst (λ x. Stores next x (number_in from lane)) same new)
]

-- A free bucket of a group has no index to store.
pub stores_skip : (groups : List Group) (hashes : List ℕ) (from : Group) (lane : ℕ) → StoresAll groups hashes from lane → tag_in from lane ≡ 0 → StoresAll groups hashes from (lane + 1)
stores_skip groups hashes from lane done free k h lt taken has = elim (cases_lt k lane) [
  | inl lower ↦ done k h lower taken has
  | inr ge ↦ let e : ◌≡◌ {A = ℕ} k lane = omega arith in absurd (let zero : tag_in from k ≡ 0 = ap (tag_in from) e ∙ free in omega (arith, taken, zero))
]

-- Of free groups no bucket is taken.
pub taken_none : (groups : List Group) (count : ℕ) → ((i : ℕ) → i < length groups → group_at groups i ≡ empty_group) → AllTakenBelow groups count
taken_none groups count free i lt lane small taken =
    let zero : tag_in (group_at groups i) lane ≡ 0 = ap (λ g. tag_in g lane) (free i lt) ∙ get_or-replicate 16 lane 0 0 (omega (arith, small)) in
    absurd (omega (arith, zero, taken))

-- While a probe looks for an index, M holds of each index that was tried.
module _ (M : ℕ → Type 0) where
  -- Of the buckets with the tag, those in `same` are still to be tried.
  pub record Untried (group : Group) (tag same : ℕ) : Type 0 where
    pub only : (k : ℕ) → IsBitSet same k → (k < 12) × (tag_in group k ≡ tag)
    pub others : (k : ℕ) → k < 12 → tag_in group k ≡ tag → IsBitSet same k ⊎ M (number_in group k)

  -- Each bucket of the group with the tag was tried.
  abbrev pub Tried : Group → ℕ → Type 0
  Tried group tag = (k : ℕ) → k < 12 → tag_in group k ≡ tag → M (number_in group k)

  -- Each bucket with the tag of the hash, of the groups before that step, was tried.
  abbrev pub TriedBefore : List Group → ℕ → ℕ → Type 0
  TriedBefore groups hash step = (k : ℕ) → k < step → Tried (probed groups hash k) (hash_tag hash)

  pub tried_all : (group : Group) (tag same : ℕ) → Untried group tag same → same ≡ 0 → Tried group tag
  tried_all group tag same left none k small at = elim (left.others k small at) [
    | inl set ↦ absurd (no_bit_zero k (subst (λ n. IsBitSet n k) none set))
    | inr tried ↦ tried
  ]

  pub tried_next : (groups : List Group) (hash step : ℕ) → TriedBefore groups hash step → Tried (probed groups hash step) (hash_tag hash) → TriedBefore groups hash (step + 1)
  tried_next groups hash step before here k lt = elim (cases_lt k step) [
    | inl lower ↦ before k lower
    | inr ge ↦ let e : step ≡ k = omega arith in subst (λ n. Tried (probed groups hash n) (hash_tag hash)) e here
  ]

  module _ (groups : List Group) (hashes : List ℕ) (indexes : Indexes groups hashes) (hash index : ℕ) (has : slice_get hashes index ≡ Some hash) where
    -- An index whose group the probe visited was tried.
    pub tried_stored : (step : ℕ) → TriedBefore groups hash step → (indexes.stored index hash has).reached.step < step → M index
    tried_stored step before lt =
        let s = indexes.stored index hash has in
        let at : probed groups hash s.reached.step ≡ group_at groups s.at = ap (group_at groups) s.reached.there in
        subst M (ap (λ g. number_in g s.lane) at ∙ s.number) (before s.reached.step lt s.lane s.in_group (ap (λ g. tag_in g s.lane) at ∙ s.tag))

    -- The probe went through all groups.
    pub tried_everywhere : TriedBefore groups hash (length groups) → M index
    tried_everywhere before = tried_stored (length groups) before (indexes.stored index hash has).reached.within

    -- The probe ended at a group with a free bucket.
    pub tried_to_end : (step lane : ℕ) → TriedBefore groups hash (step + 1) → lane < 12 → tag_in (probed groups hash step) lane ≡ 0 → M index
    tried_to_end step lane before small free = elim (cases_lt (indexes.stored index hash has).reached.step (step + 1)) [
      | inl lt ↦ tried_stored (step + 1) before lt
      | inr ge ↦
          let full = (indexes.stored index hash has).reached.goes_on step (omega arith) lane small in
          absurd (omega (arith, full, free))
    ]
