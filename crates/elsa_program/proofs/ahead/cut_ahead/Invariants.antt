use Rattle.std.proofs.Common.{◌≡◌, take, length}
use denote.Text.{Utf8}
use denote.Shadow.{shadow}
use Rattle.elsa_program.specs.Ahead.{AreCut}
use Rattle.elsa_interner.specs.Names.{text_hash}
use Rattle.elsa_program.proofs.ahead.cut_ahead.Given as goal

-- The rest is text, and the lines before it are cut.
abbrev pub invariant-loop-count : goal.invariant-loop-count
invariant-loop-count g l = shadow (Utf8 l.rest) × (length l.held ≡ 16)
    × AreCut (text_hash g.S.BuildHasher g.S.Hasher.Hasher l.fn.names.1) (take l.count l.held) l.fn.text l.rest
