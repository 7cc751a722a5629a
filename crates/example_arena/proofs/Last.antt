-- The item that was pushed last is at the last index.
use Rattle.std.proofs.Common.{◌≡◌, List, [], ◌∷◌, ◌++◌, length, slice_get, Some, ap, sym, ◌∙◌, unwrap_or}
use Rattle.std.specs.Borrow.{Bor}

last_is : {X : Type 0} (xs : List X) (b r : X) → slice_get (xs ++ b ∷ []) (length xs) ≡ Some r → b ≡ r
last_is [] b r e = ap (λ o. unwrap_or o b) e
last_is (x ∷ xs) b r e = last_is xs b r e

-- The borrow at the index of the last item shows what the item showed.
pub last_shows : {Y : Type 0} (xs ys : List (Bor Y)) (b r : Bor Y) (t : Y) → b.now ≡ t → ys ≡ xs ++ b ∷ [] → slice_get ys (length xs) ≡ Some r → r.now ≡ t
last_shows xs ys b r t is e at = sym (ap (λ c. c.now) (last_is xs b r (sym (ap (λ l. slice_get l (length xs)) e) ∙ at))) ∙ is
