-- What the blocks of an ordered table show, and what a change of one leaves.
use Rattle.std.proofs.Common.{◌≡◌, ℕ, zero, suc, ◌+◌, ◌-◌, ◌<◌, ◌≤◌, List, [], ◌∷◌, ◌++◌, drop, get_or, length, set, take, slice_get, Some, refl, ap, subst, sym, ◌∙◌, inl, inr, arith, append_assoc}
use Rattle.std.proofs.lemmas.Bool.{cases_lt}
use Rattle.std.proofs.lemmas.List.{length-append, length-drop, length-set, length-take-le, take-append-drop, take-set, take_all, take_more}
use Rattle.std.proofs.lemmas.List.Concat.{flat_map-append, get_or-flat_map}
use Rattle.std.proofs.lemmas.List.Edits.{insert-append_left, insert-append_right, length-insert}
use Rattle.std.proofs.lemmas.List.Folds.{length-flat_map-take}
use Rattle.std.proofs.lemmas.Option.{none-some, same_Some, slice_get_within, slice_get-get_or, get_or_from_slice_get}
use Rattle.std.specs.List.{AllByRecursion, flat_map, insert}
use Rattle.std.specs.declared.cmp.Ordering.{Ordering}
use Rattle.std.specs.Cmp.{IsTotalOrder}
use Rattle.elsa_cell.specs.Ordered.{IsBlockGap, IsFilled, IsGap, IsOrdered, IsTableFor, IsWalkAt, joined, rank_of}
use Rattle.elsa_cell.proofs.OrderLemmas.{counted, ordered_none, ordered_put}

-- A number that equals one which is not 0.
pub positive : (n m : ℕ) → n ≡ m → (n ≡ 0 → ⊥) → 0 < m
positive n zero e some = absurd (some e)
positive n (suc m) e some = omega arith

module _ {B : Type 0} (of : B → List ℕ) where
  -- A block is within the table.
  pub rank_fits : (blocks : List B) (at : ℕ) (b : B) → slice_get blocks at ≡ Some b → rank_of of blocks at + length (of b) ≤ length (joined of blocks)
  rank_fits blocks at b there =
      let same = get_or_from_slice_get blocks at b b there in
      subst (λ x. rank_of of blocks at + length (of x) ≤ length (joined of blocks)) same (length-flat_map-take of blocks at b (slice_get_within blocks at b there))

  -- The rank of an index is the sum of its block's and its position.
  pub get_joined : (blocks : List B) (at : ℕ) (b : B) (position i : ℕ) → slice_get blocks at ≡ Some b → slice_get (of b) position ≡ Some i → slice_get (joined of blocks) (rank_of of blocks at + position) ≡ Some i
  get_joined blocks at b position i there here =
      let lt = slice_get_within blocks at b there in
      let same = get_or_from_slice_get blocks at b b there in
      let low = slice_get_within (of b) position i here in
      let inside : position < length (of (get_or blocks at b)) = subst (λ x. position < length (of x)) (sym same) low in
      let fits = rank_fits blocks at b there in
      let sum : rank_of of blocks at + position < length (joined of blocks) = omega (arith, low, fits) in
      slice_get-get_or (joined of blocks) (rank_of of blocks at + position) i sum ∙ ap Some (get_or-flat_map of blocks at position b i lt inside ∙ (ap (λ x. get_or (of x) position i) same ∙ get_or_from_slice_get (of b) position i i here))

  -- A block's first index has the block's rank.
  pub first_joined : (blocks : List B) (at : ℕ) (b : B) (i : ℕ) → slice_get blocks at ≡ Some b → slice_get (of b) 0 ≡ Some i → slice_get (joined of blocks) (rank_of of blocks at) ≡ Some i
  first_joined blocks at b i there here =
      let e : rank_of of blocks at + 0 ≡ rank_of of blocks at = omega arith in
      subst (λ r. slice_get (joined of blocks) r ≡ Some i) e (get_joined blocks at b 0 i there here)

  -- The next block begins after a block's last index.
  pub rank_next : (blocks : List B) (at : ℕ) (b : B) → slice_get blocks at ≡ Some b → rank_of of blocks (at + 1) ≡ rank_of of blocks at + length (of b)
  rank_next blocks at b there =
      let lt = slice_get_within blocks at b there in
      let same = get_or_from_slice_get blocks at b b there in
      let more = take_more blocks at b lt ∙ ap (λ x. take at blocks ++ x ∷ []) same in
      let cut = ap (λ l. length (flat_map of l)) more ∙ (ap length (flat_map-append of (take at blocks) (b ∷ [])) ∙ length-append (flat_map of (take at blocks)) (of b ++ [])) in
      let alone : length (of b ++ []) ≡ length (of b) + 0 = length-append (of b) [] in
      omega (arith, cut, alone)

  -- All blocks.
  pub rank_all : (blocks : List B) (at : ℕ) → length blocks ≤ at → rank_of of blocks at ≡ length (joined of blocks)
  rank_all blocks at all = ap (λ l. length (flat_map of l)) (take_all at blocks all)

  pub each_filled : (blocks : List B) → AllByRecursion (λ b. 0 < length (of b)) blocks → (at : ℕ) (b : B) → slice_get blocks at ≡ Some b → 0 < length (of b)
  each_filled [] all at b there = absurd (none-some b there)
  each_filled (x ∷ xs) all zero b there = subst (λ y. 0 < length (of y)) (same_Some x b there) all.0
  each_filled (x ∷ xs) all (suc at) b there = each_filled xs all.1 at b there

  -- If one block isn't empty, none is.
  pub all_filled : (blocks : List B) (at : ℕ) (b : B) → IsFilled of blocks → slice_get blocks at ≡ Some b → 0 < length (of b) → AllByRecursion (λ x. 0 < length (of x)) blocks
  all_filled [] at b f there some = absurd (none-some b there)
  all_filled (x ∷ []) zero b f there some = (subst (λ y. 0 < length (of y)) (sym (same_Some x b there)) some, tt)
  all_filled (x ∷ []) (suc at) b f there some = absurd (none-some b there)
  all_filled (x ∷ y ∷ ys) at b f there some = f (omega arith)

  filled_set : (blocks : List B) (at : ℕ) (b : B) → AllByRecursion (λ x. 0 < length (of x)) blocks → 0 < length (of b) → AllByRecursion (λ x. 0 < length (of x)) (set blocks at b)
  filled_set [] at b all some = tt
  filled_set (x ∷ xs) zero b all some = (some, all.1)
  filled_set (x ∷ xs) (suc at) b all some = (all.0, filled_set xs at b all.1 some)

  filled_insert : (blocks : List B) (at : ℕ) (b : B) → AllByRecursion (λ x. 0 < length (of x)) blocks → 0 < length (of b) → AllByRecursion (λ x. 0 < length (of x)) (insert blocks at b)
  filled_insert blocks zero b all some = (some, all)
  filled_insert [] (suc at) b all some = (some, tt)
  filled_insert (x ∷ xs) (suc at) b all some = (all.0, filled_insert xs at b all.1 some)

  -- A block that is replaced.
  pub get_set : (blocks : List B) (at : ℕ) (b new : B) → slice_get blocks at ≡ Some b → slice_get (set blocks at new) at ≡ Some new
  get_set [] at b new there = absurd (none-some b there)
  get_set (x ∷ xs) zero b new there = refl
  get_set (x ∷ xs) (suc at) b new there = get_set xs at b new there

  pub rank_set : (blocks : List B) (at : ℕ) (new : B) → rank_of of (set blocks at new) at ≡ rank_of of blocks at
  rank_set blocks at new = ap (λ l. length (flat_map of l)) (take-set blocks at new)

  pub joined_same : (blocks : List B) (at : ℕ) (b new : B) → slice_get blocks at ≡ Some b → of new ≡ of b → joined of (set blocks at new) ≡ joined of blocks
  joined_same [] at b new there e = absurd (none-some b there)
  joined_same (x ∷ xs) zero b new there e = ap (λ l. l ++ joined of xs) (e ∙ ap of (sym (same_Some x b there)))
  joined_same (x ∷ xs) (suc at) b new there e = ap (λ l. of x ++ l) (joined_same xs at b new there e)

  pub filled_replaced : (blocks : List B) (at : ℕ) (b new : B) → slice_get blocks at ≡ Some b → (0 < length (of b) → 0 < length (of new)) → IsFilled of blocks → IsFilled of (set blocks at new)
  filled_replaced blocks at b new there grows f lt =
      let size = length-set blocks at new in
      let all = f (omega (arith, lt, size)) in
      filled_set blocks at new all (grows (each_filled blocks all at b there))

  -- An index that is inserted into a block is inserted into the table.
  pub joined_insert : (blocks : List B) (at : ℕ) (b new : B) (position y : ℕ) → slice_get blocks at ≡ Some b → position ≤ length (of b) → of new ≡ insert (of b) position y
      → joined of (set blocks at new) ≡ insert (joined of blocks) (rank_of of blocks at + position) y
  joined_insert [] at b new position y there le e = absurd (none-some b there)
  joined_insert (x ∷ xs) zero b new position y there le e =
      let same = same_Some x b there in
      let here : position ≤ length (of x) = subst (λ z. position ≤ length (of z)) (sym same) le in
      let at : position ≡ 0 + position = omega arith in
      ap (λ l. l ++ joined of xs) (e ∙ ap (λ z. insert (of z) position y) (sym same)) ∙ (sym (insert-append_left (of x) (joined of xs) position y here) ∙ ap (λ k. insert (of x ++ joined of xs) k y) at)
  joined_insert (x ∷ xs) (suc at) b new position y there le e =
      let long : rank_of of (x ∷ xs) (suc at) ≡ length (of x) + rank_of of xs at = length-append (of x) (flat_map of (take at xs)) in
      let past : length (of x) ≤ rank_of of (x ∷ xs) (suc at) + position = omega (arith, long) in
      let left : rank_of of xs at + position ≡ rank_of of (x ∷ xs) (suc at) + position - length (of x) = omega (arith, long) in
      ap (λ l. of x ++ l) (joined_insert xs at b new position y there le e ∙ ap (λ k. insert (joined of xs) k y) left)
      ∙ sym (insert-append_right (of x) (joined of xs) (length (of x)) (rank_of of (x ∷ xs) (suc at) + position) y refl past)

  -- A block that is split in two.
  pub joined_split : (blocks : List B) (at : ℕ) (b head tail : B) → slice_get blocks at ≡ Some b → of head ++ of tail ≡ of b → joined of (insert (set blocks at head) (suc at) tail) ≡ joined of blocks
  joined_split [] at b head tail there e = absurd (none-some b there)
  joined_split (x ∷ xs) zero b head tail there e = sym (append_assoc (of head) (of tail) (joined of xs)) ∙ ap (λ l. l ++ joined of xs) (e ∙ ap of (sym (same_Some x b there)))
  joined_split (x ∷ xs) (suc at) b head tail there e = ap (λ l. of x ++ l) (joined_split xs at b head tail there e)

  pub split_head : (blocks : List B) (at : ℕ) (b head tail : B) → slice_get blocks at ≡ Some b → slice_get (insert (set blocks at head) (suc at) tail) at ≡ Some head
  split_head [] at b head tail there = absurd (none-some b there)
  split_head (x ∷ xs) zero b head tail there = refl
  split_head (x ∷ xs) (suc at) b head tail there = split_head xs at b head tail there

  pub split_tail : (blocks : List B) (at : ℕ) (b head tail : B) → slice_get blocks at ≡ Some b → slice_get (insert (set blocks at head) (suc at) tail) (suc at) ≡ Some tail
  split_tail [] at b head tail there = absurd (none-some b there)
  split_tail (x ∷ xs) zero b head tail there = refl
  split_tail (x ∷ xs) (suc at) b head tail there = split_tail xs at b head tail there

  split_before : (blocks : List B) (at : ℕ) (b head tail : B) → slice_get blocks at ≡ Some b → take at (insert (set blocks at head) (suc at) tail) ≡ take at blocks
  split_before [] at b head tail there = absurd (none-some b there)
  split_before (x ∷ xs) zero b head tail there = refl
  split_before (x ∷ xs) (suc at) b head tail there = ap (λ l. x ∷ l) (split_before xs at b head tail there)

  pub rank_split : (blocks : List B) (at : ℕ) (b head tail : B) → slice_get blocks at ≡ Some b → rank_of of (insert (set blocks at head) (suc at) tail) at ≡ rank_of of blocks at
  rank_split blocks at b head tail there = ap (λ l. length (flat_map of l)) (split_before blocks at b head tail there)

  pub filled_split : (blocks : List B) (at : ℕ) (b head tail : B) → slice_get blocks at ≡ Some b → 0 < length (of b) → 0 < length (of head) → 0 < length (of tail) → IsFilled of blocks → IsFilled of (insert (set blocks at head) (suc at) tail)
  filled_split blocks at b head tail there some first second f lt =
      filled_insert (set blocks at head) (suc at) tail (filled_set blocks at head (all_filled blocks at b f there some) first) second

  -- What a split leaves: the block's first part, and the rest as the next block.
  pub record IsSplit (blocks new : List B) (at : ℕ) (head tail : B) : Type 0 where
    pub same : joined of new ≡ joined of blocks
    pub filled : IsFilled of blocks → IsFilled of new
    pub first : slice_get new at ≡ Some head
    pub second : slice_get new (at + 1) ≡ Some tail
    pub rank : rank_of of new at ≡ rank_of of blocks at
    pub next : rank_of of new (at + 1) ≡ rank_of of blocks at + length (of head)

  pub is_split : (blocks new : List B) (at cut : ℕ) (b head tail : B) → slice_get blocks at ≡ Some b → new ≡ insert (set blocks at head) (at + 1) tail → of head ≡ take cut (of b) → of tail ≡ drop cut (of b) → 0 < cut → cut < length (of b)
      → IsSplit blocks new at head tail
  is_split blocks new at cut b head tail there is first second low high =
      let up : at + 1 ≡ suc at = omega arith in
      let e = is ∙ ap (λ n. insert (set blocks at head) n tail) up in
      let whole = ap (λ l. l ++ of tail) first ∙ (ap (λ l. take cut (of b) ++ l) second ∙ take-append-drop cut (of b)) in
      let long = ap length first ∙ length-take-le cut (of b) (omega (arith, high)) in
      let left = ap length second ∙ length-drop cut (of b) in
      let head_there : slice_get new at ≡ Some head = subst (λ l. slice_get l at ≡ Some head) (sym e) (split_head blocks at b head tail there) in
      let rank : rank_of of new at ≡ rank_of of blocks at = subst (λ l. rank_of of l at ≡ rank_of of blocks at) (sym e) (rank_split blocks at b head tail there) in
      record {
        same = ap (joined of) e ∙ joined_split blocks at b head tail there whole;
        filled = λ f. subst (IsFilled of) (sym e) (filled_split blocks at b head tail there (omega (arith, high)) (omega (arith, long, low)) (omega (arith, left, high)) f);
        first = head_there;
        second = subst (λ n. slice_get new n ≡ Some tail) (sym up) (subst (λ l. slice_get l (suc at) ≡ Some tail) (sym e) (split_tail blocks at b head tail there));
        rank = rank;
        next = rank_next new at head head_there ∙ ap (λ n. n + length (of head)) rank;
      }

  -- The first index, and the last one.
  pub first_block : (blocks : List B) → IsFilled of blocks → 0 < length (joined of blocks) → (b : B) × (slice_get blocks 0 ≡ Some b) × (0 < length (of b))
  first_block [] f some = absurd (let q : ⊥ = omega (arith, some) in q)
  first_block (x ∷ []) f some = (x, refl, (let l = length-append (of x) [] in omega (arith, l, some)))
  first_block (x ∷ y ∷ ys) f some = (x, refl, (f (omega arith)).0)

  pub later_block : (blocks : List B) (at : ℕ) (d : B) → IsFilled of blocks → 0 < at → at < length blocks → (b : B) × (slice_get blocks at ≡ Some b) × (0 < length (of b))
  later_block blocks at d f some lt =
      let there = slice_get-get_or blocks at d lt in
      (get_or blocks at d, there, each_filled blocks (f (omega (arith, some, lt))) at (get_or blocks at d) there)

  pub last_block : (blocks : List B) (at : ℕ) → IsFilled of blocks → 0 < length (joined of blocks) → at + 1 ≡ length blocks → (b : B) × (slice_get blocks at ≡ Some b) × (0 < length (of b))
  last_block blocks zero f some last = first_block blocks f some
  last_block blocks (suc at) f some last = later_block blocks (suc at) (first_block blocks f some).0 f (omega arith) (omega (arith, last))

  -- The walk: at its beginning, and after a step.
  pub walk_first : (blocks : List B) (left : ℕ) → IsFilled of blocks → left ≡ length (joined of blocks) → IsWalkAt of blocks 0 0 left
  walk_first blocks left f all = record {
    filled = f;
    counted = (let e : 0 + 0 + left ≡ left = omega arith in e ∙ all);
    there = λ some. first_block blocks f (subst (λ n. 0 < n) all some);
  }

  pub walk_within : (blocks : List B) (at position left : ℕ) (b : B) → IsWalkAt of blocks at position left → slice_get blocks at ≡ Some b → position + 1 < length (of b) → 0 < left → IsWalkAt of blocks at (position + 1) (left - 1)
  walk_within blocks at position left b w there more some = record {
    filled = w.filled;
    counted = (let c = w.counted in omega (arith, c, some));
    there = λ _. (b, there, more);
  }

  pub walk_past : (blocks : List B) (at position left : ℕ) (b : B) → IsWalkAt of blocks at position left → slice_get blocks at ≡ Some b → position + 1 ≡ length (of b) → 0 < left → IsWalkAt of blocks (at + 1) 0 (left - 1)
  walk_past blocks at position left b w there end some =
      let next = rank_next blocks at b there in
      let c = w.counted in
      record {
        filled = w.filled;
        counted = omega (arith, next, c, end, some);
        there = λ more. elim (cases_lt (at + 1) (length blocks)) [
          | inl lt ↦ later_block blocks (at + 1) b w.filled (omega arith) lt
          | inr all ↦ absurd (let e = rank_all blocks (at + 1) all in let q : ⊥ = omega (arith, e, next, c, end, more, some) in q)
        ];
      }

-- An insertion into a block that has room.
pub table_put : {K B : Type 0} (of : B → List ℕ) (cmp : K → K → Ordering) (total : IsTotalOrder cmp) (blocks : List B) (count : ℕ) (keys : List K) (key : K) (end : ℕ × ℕ) (b new : B) → IsTableFor of cmp blocks count keys → IsBlockGap of (cmp key) blocks keys end
    → slice_get blocks end.0 ≡ Some b → end.1 ≤ length (of b) → of new ≡ insert (of b) end.1 count → IsTableFor of cmp (set blocks end.0 new) (count + 1) (keys ++ key ∷ [])
table_put of cmp total blocks count keys key end b new t g there le is =
    let order = joined of blocks in
    let size = counted cmp order keys t.ordered in
    let number : length order ≡ count = size ∙ sym t.counted in
    let put = joined_insert of blocks end.0 b new end.1 count there le is ∙ ap (insert order (rank_of of blocks end.0 + end.1)) (sym number) in
    let long = ap length is ∙ length-insert (of b) end.1 count le in
    record {
      ordered = subst (λ l. IsOrdered cmp l (keys ++ key ∷ [])) (sym put) (ordered_put cmp total order keys key (rank_of of blocks end.0 + end.1) t.ordered g.gap);
      filled = filled_replaced of blocks end.0 b new there (λ _. omega (arith, long)) t.filled;
      counted = (let l = length-append keys (key ∷ []) in let c = t.counted in omega (arith, l, c));
    }

-- The table of no blocks, and with a first block without indices.
pub table_none : {K B : Type 0} (of : B → List ℕ) (cmp : K → K → Ordering) → IsTableFor of cmp [] 0 []
table_none of cmp = record { ordered = ordered_none cmp; filled = λ lt. absurd (let q : ⊥ = omega (arith, lt) in q); counted = refl }

pub gap_first : {K B : Type 0} (of : B → List ℕ) (against : K → Ordering) (blocks new : List B) (keys : List K) (end : ℕ × ℕ) (b : B) → IsBlockGap of against blocks keys end → blocks ≡ [] → new ≡ b ∷ [] → of b ≡ [] → IsBlockGap of against new keys (0, 0)
gap_first of against blocks new keys end b g none is empty =
    let old : joined of blocks ≡ [] = ap (joined of) none in
    let now : joined of new ≡ [] = ap (joined of) is ∙ ap (λ l. l ++ []) empty in
    let low = g.gap.within in
    let zero_long = ap length old in
    let at : rank_of of blocks end.0 + end.1 ≡ 0 = omega (arith, low, zero_long) in
    let first : slice_get new 0 ≡ Some b = ap (λ l. slice_get l 0) is in
    record {
      gap = subst (λ n. IsGap against (joined of new) keys n) at (subst (λ l. IsGap against l keys (rank_of of blocks end.0 + end.1)) (old ∙ sym now) g.gap);
      there = λ _. (b, first, omega arith);
    }

-- A table whose joined indices are those of another.
pub table_same : {K B : Type 0} (of : B → List ℕ) (cmp : K → K → Ordering) (blocks new : List B) (count number : ℕ) (keys : List K) → joined of new ≡ joined of blocks → (IsFilled of blocks → IsFilled of new) → number ≡ count → IsTableFor of cmp blocks count keys → IsTableFor of cmp new number keys
table_same of cmp blocks new count number keys same filled n t = record {
  ordered = subst (λ l. IsOrdered cmp l keys) (sym same) t.ordered;
  filled = filled t.filled;
  counted = n ∙ t.counted;
}

pub gap_same : {K B : Type 0} (of : B → List ℕ) (against : K → Ordering) (blocks new : List B) (keys : List K) (end to : ℕ × ℕ) (b : B) → IsBlockGap of against blocks keys end → joined of new ≡ joined of blocks → rank_of of new to.0 + to.1 ≡ rank_of of blocks end.0 + end.1 → slice_get new to.0 ≡ Some b → to.1 ≤ length (of b)
    → IsBlockGap of against new keys to
gap_same of against blocks new keys end to b g same rank there le = record {
  gap = subst (λ n. IsGap against (joined of new) keys n) (sym rank) (subst (λ l. IsGap against l keys (rank_of of blocks end.0 + end.1)) (sym same) g.gap);
  there = λ _. (b, there, le);
}
