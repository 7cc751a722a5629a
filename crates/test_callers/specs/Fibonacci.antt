-- The Fibonacci numbers, by the rule that defines them.
use Rattle.std.specs.Prelude.{ℕ, zero, suc, ◌+◌}

-- The number at an index, counted from 0.
abbrev pub fibonacci_at : ℕ → ℕ
fibonacci_at zero = 0
fibonacci_at (suc zero) = 1
fibonacci_at (suc (suc n)) = fibonacci_at (suc n) + fibonacci_at n
