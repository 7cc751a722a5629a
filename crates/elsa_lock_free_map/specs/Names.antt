-- What a short name means: its text.
use Rattle.std.specs.Prelude.{ℕ, List, take}
use Rattle.elsa_lock_free_map.specs.declared.name_bytes.Name.{Name}

-- the bytes of a name's text
abbrev pub text_of : Name → List ℕ
text_of n = take n.len n.bytes
