-- What a `SeededHasher` computes: std's `FoldHasher` with a secret word in each factor of each
-- product.
use Rattle.std.specs.Prelude.{ℕ, zero, suc, ◌+◌, ◌-◌, ◌*◌, ◌/◌, ◌%◌, ◌^◌, List, length, if◌then◌else◌, nat_le, bit_xor}
use Rattle.std.specs.Hash.FoldHasher.{folded_multiply, read_short, read_u64}
use Rattle.elsa_hash.specs.declared.seeded.SeededHasher.{SeededHasher}
use Rattle.elsa_hash.specs.declared.seeded.SeededState.{SeededState}

-- The hasher with these secret words.
abbrev pub hasher : ℕ → ℕ → SeededHasher
hasher start factor = record { state = start; factor = factor }

-- The hasher that a `SeededState` makes.
abbrev pub first_hasher : SeededState → SeededHasher
first_hasher s = hasher s.start s.factor

-- The state after the words at the indices i and j are mixed in.
abbrev pub mix : ℕ → List ℕ → ℕ → ℕ → ℕ → ℕ
mix factor bs state i j = folded_multiply (bit_xor (read_u64 bs i) state) (bit_xor (read_u64 bs j) factor)

-- The state after the first n blocks of 16 bytes are mixed in.
unfoldable pub mix_blocks : ℕ → List ℕ → ℕ → ℕ → ℕ
mix_blocks factor bs state zero = state
mix_blocks factor bs state (suc n) = mix factor bs (mix_blocks factor bs state n) (16 * n) (16 * n + 8)

-- The state before the first block of a write of n bytes, for n above eight. It depends on n; no
-- two lengths are known to have the same state here.
abbrev pub begun : SeededHasher → ℕ → ℕ
begun h n = (h.state + n * h.factor % 2 ^ 64) % 2 ^ 64

-- The hasher after `write(bs)`.
unfoldable pub write : SeededHasher → List ℕ → SeededHasher
write h bs =
    let n = length bs in
    let short = folded_multiply (bit_xor h.state (read_short bs)) (bit_xor h.factor (2 * n)) in
    let long = mix h.factor bs (mix_blocks h.factor bs (begun h n) ((n - 1) / 16)) (n - 16) (n - 8) in
    hasher (if nat_le n 8 then short else long) h.factor

-- The value that `finish` returns.
abbrev pub finish : SeededHasher → ℕ
finish h = h.state
