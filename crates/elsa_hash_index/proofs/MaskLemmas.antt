-- The bits of the tags that equal a tag.
use Rattle.std.proofs.Common.{◌≡◌, ℕ, zero, suc, ◌%◌, ◌^◌, ◌<◌, true, false, List, [], ◌∷◌, length, get_or, map, replicate, cond, subst, sym, arith}
use borrow.Author.Tests.{eqb-true, eq-eqb}
use lib.Dec.{eqb}
use lib.Lanes.{mask_l, top, zip2}
use mir.Syntax.{w8}
use Rattle.std.proofs.lemmas.Simd.{bitmask_splat}
use Rattle.std_collections.specs.IndexTable.Group.{IsBitSet}
use Rattle.std_collections.proofs.IndexTableLemmas.Bits.{bit_mask, lane_from_bit}

equal_at : (xs : List ℕ) (y k : ℕ) → get_or (map (λ x. eqb x y) xs) k false ≡ true → (k < length xs) × (get_or xs k 0 ≡ y)
equal_at [] y k h = absurd (cc h)
equal_at (x ∷ xs) y zero h = (omega arith, eqb-true x y h)
equal_at (x ∷ xs) y (suc k) h = let r = equal_at xs y k h in let lt = r.0 in (omega (arith, lt), r.1)

at_equal : (xs : List ℕ) (y k : ℕ) → k < length xs → get_or xs k 0 ≡ y → get_or (map (λ x. eqb x y) xs) k false ≡ true
at_equal [] y k lt e = absurd (omega (arith, lt))
at_equal (x ∷ xs) y zero lt e = eq-eqb x y e
at_equal (x ∷ xs) y (suc k) lt e = at_equal xs y k (omega (arith, lt)) e

-- As the comparison of sixteen lanes gives them.
abbrev pub equal_mask : List ℕ → ℕ → ℕ
equal_mask xs y = mask_l (map (top 7) (zip2 (λ a b. cond (eqb a b) 255 0) xs (replicate 16 y))) % 2 ^ 64

pub lane_of_bit : (xs : List ℕ) (y : ℕ) → length xs ≡ 16 → (k : ℕ) → IsBitSet (equal_mask xs y) k → (k < 16) × (get_or xs k 0 ≡ y)
lane_of_bit xs y l k h =
    let r = equal_at xs y k (lane_from_bit (map (λ x. eqb x y) xs) k (subst (λ n. IsBitSet n k) (bitmask_splat w8 eqb xs 16 y l (omega arith)) h)) in
    let lt = r.0 in
    (omega (arith, lt, l), r.1)

pub bit_of_lane : (xs : List ℕ) (y : ℕ) → length xs ≡ 16 → (k : ℕ) → k < 16 → get_or xs k 0 ≡ y → IsBitSet (equal_mask xs y) k
bit_of_lane xs y l k lt e =
    subst (λ n. IsBitSet n k) (sym (bitmask_splat w8 eqb xs 16 y l (omega arith))) (bit_mask (map (λ x. eqb x y) xs) k (at_equal xs y k (omega (arith, lt, l)) e))
