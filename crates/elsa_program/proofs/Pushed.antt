-- What a worker has pushed, while the list grows by its own pushes and by those of others.
use Rattle.std.proofs.Common.{◌≡◌, ℕ, suc, ◌+◌, List, [], ◌∷◌, ◌++◌, Option, ap, sym, ◌∙◌, arith}
use mathlib.Core.List.{IsPrefix}
use Rattle.elsa_lock_free.specs.declared.event.Entry.{Entry}
use Rattle.elsa_lock_free.specs.SharedList.{Appends, IsSamePass, Vector, View, entry, mine, pushed_by}
use Rattle.elsa_lock_free.proofs.Pushed.{pushes_none, pushes_one}
use Rattle.elsa_program.specs.declared.shared.SharedFault.{SharedFault}
use Rattle.elsa_program.specs.Workers.{IsPromiseOf, IsWorkOf, numbers}

-- The next number is appended to the first n numbers.
pub numbers_more : (first n : ℕ) → numbers first (n + 1) ≡ numbers first n ++ (first + n) ∷ []
numbers_more first n = ap (numbers first) (let e : n + 1 ≡ suc n = omega arith in e)

-- A view that had pushed the first n numbers has pushed the next.
pub pushes_next : (old new : View ℕ) (index first n : ℕ) → new.writer ≡ old.writer → Appends old.seen new.seen index (entry old.writer (first + n))
    → mine new ≡ mine old ++ index ∷ [] → pushed_by old.writer old.seen ≡ numbers first n → pushed_by new.writer new.seen ≡ numbers first (n + 1)
pushes_next old new index first n writer adds more was =
    pushes_one old new index (first + n) writer adds more ∙ (ap (λ (l : List ℕ). l ++ (first + n) ∷ []) was ∙ sym (numbers_more first n))

-- A worker's result is still its result after its view has observed more.
pub work_stays : (vector : Vector) (before : List (Entry ℕ)) (count worker : ℕ) (old new : View ℕ) (fault : Option SharedFault) → IsSamePass old new
    → IsPrefix old.seen new.seen → mine new ≡ mine old → IsWorkOf vector before count worker old fault → IsWorkOf vector before count worker new fault
work_stays vector before count worker old new fault same pre indices (of, fresh, (n, is, ends)) =
    (same.0 ∙ of, ap (λ (a : ℕ). pushed_by a before) same.1 ∙ fresh, (n, pushes_none old new same.1 pre indices ∙ is, ends))

-- A result for which a thread's promise is kept is the worker's result.
pub promised_work : (vector other_vector : Vector) (before other_before : List (Entry ℕ)) (count other_count worker other : ℕ) (pass : View ℕ) (fault : Option SharedFault)
    → IsPromiseOf vector before count worker other_vector other_before other_count other → IsWorkOf other_vector other_before other_count other pass fault
    → IsWorkOf vector before count worker pass fault
promised_work vector other_vector before other_before count other_count worker other pass fault (same, begun, counted, is) kept =
    rw (sym same, sym begun, sym counted, sym is) kept

-- A view that had pushed the first n numbers has pushed no other.
pub pushes_no_next : (old new : View ℕ) (first n : ℕ) → new.writer ≡ old.writer → IsPrefix old.seen new.seen → mine new ≡ mine old
    → pushed_by old.writer old.seen ≡ numbers first n → pushed_by new.writer new.seen ≡ numbers first n
pushes_no_next old new first n writer pre same was = pushes_none old new writer pre same ∙ was
