-- The names of a dictionary.
use Rattle.std.specs.Prelude.{ℕ, List}
use Rattle.elsa_c.specs.declared.handle.Dictionary.{Dictionary}
use Rattle.elsa_c.specs.Kept.{names_in}

-- The names of a dictionary, in the order of their codes.
abbrev pub names_of : Dictionary → List (List ℕ)
names_of dictionary = names_in dictionary.handle.value
