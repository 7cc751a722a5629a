-- What a rule over keys and values says of a value that was found, and of the entries of a map.
use Rattle.std.specs.Prelude.{◌≡◌, Bool, true, List, Some}
use Rattle.std.specs.Map.{lookup}

-- the value holds for a key that passes the test; that key is the stored one, which may differ from the key that was looked up, although both are equal
abbrev pub HoldsAt : {K V : Type 0} → (K → V → Type 0) → (K → Bool) → V → Type 0
HoldsAt {K} holds finds v = (k : K) × (finds k ≡ true) × holds k v

-- each value that a look-up finds holds for a key that equals the one that was looked up
abbrev pub IsKept : {K V : Type 0} → (K → K → Bool) → (K → V → Type 0) → List (K × V) → Type 0
IsKept {K} {V} same holds entries = (q : K) (v : V) → lookup (same q) entries ≡ Some v → HoldsAt holds (same q) v
