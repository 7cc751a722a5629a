-- What an interner sends to a serializer.
use Rattle.std.specs.Prelude.{ℕ, List}
use Rattle.serde.specs.Event.{Log, Logs, text}

-- The text of these bytes, and nothing else.
abbrev pub WritesText : List ℕ → Log → Log → Type 0
WritesText bytes old new = Logs old new (text bytes)
