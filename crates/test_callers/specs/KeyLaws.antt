-- A query by two parts finds a key if it equals both parts of the key. Then it is hashed as the
-- key, and finds the keys that equal it.
use Rattle.std.proofs.Common.{◌≡◌, ◌++◌, ◌&&◌, refl, sym, true≢false, Bool, true, false, ℕ, List}
use Rattle.std.specs.Bool.{IsTrue, ◌==◌}
use Rattle.std.specs.Cmp.{unsigned_Decides}
use Rattle.std.specs.Cmp.Lexicographic.{bytes_decides}
use Rattle.std.specs.Hash as fed
use Rattle.std.specs.Str.{bytes_eq}
use Rattle.test_callers.specs.Parts.{are_parts}

-- If a conjunction is true, both of its parts are.
both_hold : (a b : Bool) → IsTrue (a && b) → IsTrue a × IsTrue b
both_hold true b h = (refl, h)
both_hold false b h = absurd (true≢false (sym h))

-- A query that equals both parts of a key is hashed as the key.
pub hashed_alike : (host : List ℕ) (port : ℕ) (bytes : List ℕ) (number : ℕ) → IsTrue (are_parts host port bytes number)
    → fed.str host ++ fed.u32 port ≡ fed.str bytes ++ fed.u32 number
hashed_alike host port bytes number h =
    let both = both_hold (bytes_eq host bytes) (port == number) h in
    λ i. fed.str ((bytes_decides host bytes).0 both.0 i) ++ fed.u32 ((unsigned_Decides port number).0 both.1 i)

-- A query that equals both parts of a key finds the keys that equal it.
pub finds_equals : (host : List ℕ) (port : ℕ) (bytes : List ℕ) (number : ℕ) (others : List ℕ) (other : ℕ)
    → IsTrue (are_parts host port bytes number) → are_parts host port others other ≡ are_parts bytes number others other
finds_equals host port bytes number others other h =
    let both = both_hold (bytes_eq host bytes) (port == number) h in
    λ i. are_parts ((bytes_decides host bytes).0 both.0 i) ((unsigned_Decides port number).0 both.1 i) others other
