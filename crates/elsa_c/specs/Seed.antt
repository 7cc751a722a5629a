-- The words that the secret of a hash begins with.
use Rattle.std.specs.Prelude.{ℕ}

-- A seed of zeros stands for the words of std's FoldHasher.
abbrev pub zero_start : ℕ
zero_start = 2611923443488327891

abbrev pub zero_factor : ℕ
zero_factor = 11400714819323198485
