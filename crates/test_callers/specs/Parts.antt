-- A key of two parts, by its parts.
use Rattle.std.specs.Prelude.{◌&&◌, Bool, List, ℕ}
use Rattle.std.specs.Bool.{◌==◌}
use Rattle.std.specs.Str.{bytes_eq}

-- Whether a text and a number equal the bytes and the number of a key.
abbrev pub are_parts : List ℕ → ℕ → List ℕ → ℕ → Bool
are_parts host port bytes number = bytes_eq host bytes && (port == number)
