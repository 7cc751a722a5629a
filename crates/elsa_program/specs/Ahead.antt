-- Requests that are held until their replies are due, each with the hash of the name that it puts.
use Rattle.std.specs.Prelude.{◌≡◌, ℕ, List, [], ◌∷◌, ◌++◌}
use Rattle.elsa_program.specs.declared.ahead.Held.{Held}
use Rattle.elsa_program.specs.Feeding.{IsInside}
use Rattle.elsa_program.specs.Lines.{Command, put, find, at, len, bad, command_of}
use Rattle.elsa_program.specs.Replies.{asked}

-- If the command is a `put`, the number is the hash of its text.
abbrev pub IsHashed : (List ℕ → ℕ) → Command → ℕ → Type 0
IsHashed hash (put text) h = h ≡ hash text
IsHashed hash (find text) h = Unit {0}
IsHashed hash (at n) h = Unit {0}
IsHashed hash len h = Unit {0}
IsHashed hash bad h = Unit {0}

-- The requests are those of the first lines of the text, in their order and with their hashes;
-- `rest` is what follows after these lines.
abbrev pub AreCut : (List ℕ → ℕ) → List Held → List ℕ → List ℕ → Type 0
AreCut hash [] text rest = text ≡ rest
AreCut hash (held ∷ more) text rest =
    (line : List ℕ) × (later : List ℕ) × (text ≡ line ++ 10 ∷ later) × IsInside line
    × (asked held.request ≡ command_of line) × IsHashed hash (asked held.request) held.hash
    × AreCut hash more later rest
