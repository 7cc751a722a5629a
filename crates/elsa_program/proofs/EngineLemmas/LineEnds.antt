-- The end of the first line of a piece, and that a text may be cut there.
use Rattle.std.proofs.Common.{◌≡◌, ℕ, ◌+◌, ◌-◌, ◌%◌, ◌^◌, ◌<◌, ◌≤◌, true, false, cond, not, Bool, refl, nat_eq, nat_lt, map, replicate, w8, take, drop, get_or, List, ◌∷◌, ◌++◌, length, arith, sym, ap, subst, ◌∙◌}
use Rattle.std.proofs.lemmas.List.{get_or-drop, length-append, length-drop, length-take, take_all}
use Rattle.std.proofs.lemmas.Bool.{ltb-false, ltb-true}
use Rattle.std.proofs.Math.Seq.{drop-append-add, get_or-append_seam, take-append_seam}
use Rattle.std.proofs.lemmas.Simd.{bitmask_splat, none_from_empty_mask, run_in_chunk_fails, run_in_chunk_le, run_in_chunk_stops, trailing_mask_l}
use Rattle.std.specs.Simd.Lanes.{mask_l, top, zip2}
use lib.Count.{count_trailing_zeros}
use Rattle.std.proofs.lemmas.Str.{IsCharBoundary-after_ascii}
use Rattle.std.specs.Str.{IsUtf8, IsCharBoundary}
use Rattle.memchr.specs.Find.{is_byte}
use Rattle.std.specs.List.{prefix_len}
use Rattle.elsa_program.specs.Feeding.{IsInside}

-- A bit for each of the first sixteen bytes, which is set if the byte is 10.
abbrev ends_of : List ℕ → ℕ
ends_of xs = mask_l (map (top 7) (zip2 (λ a b. cond (nat_eq a b) 255 0) (take 16 xs) (replicate 16 10))) % 2 ^ 64

sixteen : (xs : List ℕ) → 16 ≤ length xs → length (take 16 xs) ≡ 16
sixteen xs room = rw length-take (omega arith)

ends_is : (xs : List ℕ) → 16 ≤ length xs → ends_of xs ≡ mask_l (map (is_byte 10) (take 16 xs))
ends_is xs room = bitmask_splat w8 nat_eq (take 16 xs) 16 10 (sixteen xs room) (omega arith)

counted : (xs : List ℕ) → 16 ≤ length xs → (ends_of xs ≡ 0 → ⊥) → count_trailing_zeros 64 (ends_of xs) ≡ prefix_len (λ x. not (is_byte 10 x)) (take 16 xs)
counted xs room some =
    let e = ends_is xs room in
    let few : length (take 16 xs) ≤ 64 = rw (sixteen xs room) (omega arith) in
    let more : 0 < mask_l (map (is_byte 10) (take 16 xs)) = subst (λ m. 0 < m) e (omega (arith, some)) in
    ap (count_trailing_zeros 64) e ∙ trailing_mask_l (is_byte 10) 64 (take 16 xs) few more

-- If no bit is set, none of the sixteen bytes is 10.
pub none_near : (xs : List ℕ) → 16 ≤ length xs → ends_of xs ≡ 0 → (k : ℕ) → k < 16 → is_byte 10 (get_or xs k 0) ≡ false
none_near xs room none k l = none_from_empty_mask (is_byte 10) xs 0 16 0 (omega arith) (sym (ends_is xs room) ∙ none) k (omega arith) (omega arith)

-- If a bit is set, the number of zeros below the lowest set bit is at most sixteen.
pub near_within : (xs : List ℕ) → 16 ≤ length xs → (ends_of xs ≡ 0 → ⊥) → count_trailing_zeros 64 (ends_of xs) ≤ 16
near_within xs room some = run_in_chunk_le (is_byte 10) xs 0 16 _ 0 (omega arith) (counted xs room some)

-- No byte before that index is 10.
pub near_before : (xs : List ℕ) → 16 ≤ length xs → (ends_of xs ≡ 0 → ⊥) → (k : ℕ) → k < count_trailing_zeros 64 (ends_of xs) → is_byte 10 (get_or xs k 0) ≡ false
near_before xs room some k l = run_in_chunk_fails (is_byte 10) xs 0 16 _ 0 (omega arith) (counted xs room some) k (omega arith) (omega arith)

-- The byte at that index is 10.
pub near_there : (xs : List ℕ) → 16 ≤ length xs → (ends_of xs ≡ 0 → ⊥) → count_trailing_zeros 64 (ends_of xs) < 16 → is_byte 10 (get_or xs (count_trailing_zeros 64 (ends_of xs)) 0) ≡ true
near_there xs room some l =
    let from_zero : 0 + count_trailing_zeros 64 (ends_of xs) ≡ count_trailing_zeros 64 (ends_of xs) = omega arith in
    subst (λ n. is_byte 10 (get_or xs n 0) ≡ true) from_zero (run_in_chunk_stops (is_byte 10) xs 0 16 _ 0 (omega arith) (counted xs room some) l)

-- What is left of a piece after its first n bytes.
abbrev pub left_of : List ℕ → ℕ → List ℕ
left_of xs n = take (length xs - n) (drop n xs)

-- A byte of what is left is one of the piece.
byte_left : (xs : List ℕ) (n k : ℕ) → is_byte 10 (get_or (left_of xs n) k 0) ≡ is_byte 10 (get_or xs (n + k) 0)
byte_left xs n k =
    let whole : left_of xs n ≡ drop n xs = take_all (length xs - n) (drop n xs) (rw length-drop (omega arith)) in
    ap (λ ys. is_byte 10 (get_or ys k 0)) whole ∙ ap (is_byte 10) (get_or-drop n xs k 0)

-- No byte before n is 10, and none of the next m bytes is.
pub none_in_both : (xs : List ℕ) (n m : ℕ) → ((k : ℕ) → k < n → is_byte 10 (get_or xs k 0) ≡ false) → ((k : ℕ) → k < m → is_byte 10 (get_or (left_of xs n) k 0) ≡ false) → (k : ℕ) → k < n + m → is_byte 10 (get_or xs k 0) ≡ false
none_in_both xs n m first later k within = by_side (nat_lt k n) refl
  where
    by_side : (b : Bool) → nat_lt k n ≡ b → is_byte 10 (get_or xs k 0) ≡ false
    by_side true t = first k (ltb-true k n t)
    by_side false f =
        let le : n ≤ k = ltb-false k n f in
        let there : n + (k - n) ≡ k = omega (arith, le) in
        ap (λ i. is_byte 10 (get_or xs i 0)) (sym there) ∙ (sym (byte_left xs n (k - n)) ∙ later (k - n) (omega (arith, le, within)))

-- A byte 10 after the first n bytes.
pub there_in_both : (xs : List ℕ) (n k : ℕ) → is_byte 10 (get_or (left_of xs n) k 0) ≡ true → is_byte 10 (get_or xs (n + k) 0) ≡ true
there_in_both xs n k h = sym (byte_left xs n k) ∙ h

within_text : (line later : List ℕ) → length line < length (line ++ 10 ∷ later)
within_text line later = rw length-append (omega arith)

-- A text may be cut after a byte 10.
pub boundary_behind : (text line later : List ℕ) → text ≡ line ++ 10 ∷ later → IsUtf8 text → IsCharBoundary text (length line + 1)
boundary_behind text line later is u =
    IsCharBoundary-after_ascii text (length line) u (rw is (within_text line later)) (rw (is, get_or-append_seam line 10 later 0) (omega arith))

-- The two parts of a text that is cut at a byte 10.
pub parts_of_text : (text line later front back : List ℕ) → text ≡ line ++ 10 ∷ later → IsInside line → front ≡ take (length line - 0) text → back ≡ drop (length line + 1) text → IsInside front × (text ≡ front ++ 10 ∷ back)
parts_of_text text line later front back is inside f b =
    let none : length line - 0 ≡ length line = omega arith in
    let same_front = f ∙ (ap (λ n. take n text) none ∙ ap (λ t. take (length line) t) is ∙ take-append_seam line (10 ∷ later)) in
    let same_back = b ∙ (ap (λ t. drop (length line + 1) t) is ∙ drop-append-add line (10 ∷ later) 1) in
    (subst IsInside (sym same_front) inside, is ∙ (ap (λ t. t ++ 10 ∷ later) (sym same_front) ∙ ap (λ t. front ++ 10 ∷ t) (sym same_back)))
