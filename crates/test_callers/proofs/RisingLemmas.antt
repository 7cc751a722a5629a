-- What a writer of rising numbers has pushed stays below its next number.
use Rattle.std.proofs.Common.{◌≡◌, ℕ, suc, ◌+◌, ◌<◌, ◌≤◌, List, [], ◌∷◌, ◌++◌, length, take, refl, ap, sym, arith}
use Rattle.elsa_lock_free.specs.SharedList.{Continues, IsLaterPass, PushesNext, View, pushed_by}
use Rattle.elsa_lock_free.proofs.Pushed.{pushes_none, pushes_one}
use Rattle.std.proofs.lemmas.List.{append-nil}
use Rattle.test_callers.specs.Rising.{AllBelow}

below_more : (m n : ℕ) (xs : List ℕ) → m ≤ n → AllBelow m xs → AllBelow n xs
below_more m n [] low all = tt
below_more m n (x ∷ xs) low all = (let small = all.0 in omega (arith, small, low), below_more m n xs low all.1)

below_one_more : (n x : ℕ) (xs : List ℕ) → x < n → AllBelow n xs → AllBelow n (xs ++ x ∷ [])
below_one_more n x [] low all = (low, tt)
below_one_more n x (y ∷ xs) low all = (all.0, below_one_more n x xs low all.1)

take_whole : {T : Type 0} (xs : List T) → take (length xs) xs ≡ xs
take_whole [] = refl
take_whole (x ∷ xs) = ap (λ l. x ∷ l) (take_whole xs)

-- A writer that has pushed nothing since has still pushed numbers below its next one.
pub stays_below : (old new : View ℕ) (next : ℕ) → Continues old new → AllBelow next (pushed_by old.writer old.seen) → AllBelow next (pushed_by new.writer new.seen)
stays_below old new next (same, more, mine) all = rw (pushes_none old new same.1 more mine) all

-- And it may push each number from that one on, after all that it has seen.
pub may_push : (old new : View ℕ) (next item : ℕ) → Continues old new → AllBelow next (pushed_by old.writer old.seen) → next ≤ item
    → AllBelow item (pushed_by new.writer (take (length new.seen) new.seen))
may_push old new next item same all low =
    rw (take_whole new.seen) (below_more next item (pushed_by new.writer new.seen) low (stays_below old new next same all))

-- When it has pushed a number, all of its numbers are below the one after it.
pub grows_below : (old new : View ℕ) (next item : ℕ) → IsLaterPass old new → PushesNext old new item → AllBelow next (pushed_by old.writer old.seen) → next ≤ item
    → AllBelow (item + 1) (pushed_by new.writer new.seen)
grows_below old new next item same pushed all low =
    let is = pushes_one old new (length old.seen) item same.0.1 (old.seen, ([], append-nil old.seen), refl, pushed.0) pushed.1 in
    rw is (below_one_more (item + 1) item (pushed_by old.writer old.seen) (omega arith) (below_more next (item + 1) (pushed_by old.writer old.seen) (omega (arith, low)) all))
