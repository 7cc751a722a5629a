-- A list whose elements are taken from its front, one after another, and a directory whose buffers
-- are taken in order.
use Rattle.std.proofs.Common.{◌≡◌, ℕ, zero, suc, ◌+◌, ◌^◌, ◌<◌, ◌≤◌, List, [], ◌∷◌, length, drop as behind, refl, sym, ap, ◌∙◌, arith}
use lib.ListN.{get_or, drop}
use lib.Seq.{drop-cons}
use native.Mathlib.Decide.{dec_lt}
use native.Mathlib.Nat.{min-eq_left, min-eq_right}
use Prim.Native.Nat.{min}
use Rattle.elsa_slots.proofs.GeometryLemmas.Powers.{four_mono}
use Rattle.std.proofs.lemmas.List.{length-drop}

head : List ℕ → ℕ
head [] = 0
head (x ∷ xs) = x

tail : List ℕ → List ℕ
tail [] = []
tail (x ∷ xs) = xs

-- Lists that agree from i on agree at i.
pub same_there : (xs ys : List ℕ) (i : ℕ) → drop i xs ≡ drop i ys → i < length xs → i < length ys → get_or xs i 0 ≡ get_or ys i 0
unfolding head
same_there xs ys i e lx ly = ap head (sym (drop-cons xs i 0 lx) ∙ (e ∙ drop-cons ys i 0 ly))

-- They also agree after i.
pub same_later : (xs ys : List ℕ) (i : ℕ) → drop i xs ≡ drop i ys → i < length xs → i < length ys → drop (suc i) xs ≡ drop (suc i) ys
unfolding tail
same_later xs ys i e lx ly = ap tail (sym (drop-cons xs i 0 lx) ∙ (e ∙ drop-cons ys i 0 ly))

rest_of : (xs : List ℕ) (i : ℕ) → tail (drop i xs) ≡ drop (suc i) xs
unfolding tail
rest_of [] zero = refl
rest_of [] (suc i) = refl
rest_of (x ∷ xs) zero = refl
rest_of (x ∷ xs) (suc i) = rest_of xs i

-- If an element is the first one of the rest, the others are those after it.
pub later_of : (xs : List ℕ) (i x : ℕ) (rest : List ℕ) → drop i xs ≡ x ∷ rest → rest ≡ drop (i + 1) xs
unfolding tail
later_of xs i x rest e = ap tail (sym e) ∙ rest_of xs i ∙ ap (λ k. drop k xs) (let z : suc i ≡ i + 1 = omega arith in z)

-- A number that isn't the end is below it.
pub not_end : (n end : ℕ) → n ≤ end → (n ≡ end → ⊥) → n < end
not_end n end le other = elim (dec_lt n end) [
  | yes low ↦ low
  | no high ↦ absurd (other (omega (arith, le, high)))
]

-- If fewer than the remaining items are in a buffer, the buffer is full.
pub whole_one : (size left : ℕ) → min size left < left → min size left ≡ size
whole_one size left low = elim (dec_lt left size) [
  | yes less ↦ absurd (let e = min-eq_right (let z : left ≤ size = omega (arith, less) in z) in omega (arith, e, low))
  | no more ↦ min-eq_left (let z : size ≤ left = omega (arith, more) in z)
]

-- After the last buffer of the directory no index is left.
pub none_left : (buffers : List ℕ) (b index len : ℕ) → length buffers ≡ 31 → behind b buffers ≡ [] → index ≤ len → (index < len → index + 1 ≡ 4 ^ b) → len < 2 ^ 62 → index ≡ len
none_left buffers b index len all last le begins few = elim (dec_lt index len) [
  | yes low ↦ (let l = length-drop b buffers in let e = ap length last in let p = begins low in
      let m : 4 ^ 31 ≤ 4 ^ b = four_mono 31 b (omega (arith, l, e, all)) in let k : 4 ^ 31 ≡ 2 ^ 62 = refl in absurd (omega (arith, p, m, k, low, few)))
  | no high ↦ omega (arith, le, high)
]
