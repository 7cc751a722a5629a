use Rattle.std.proofs.Common.{◌∙◌, sym}
use Rattle.elsa_program.proofs.EngineLemmas.LineEnds.{boundary_behind, parts_of_text}
use Rattle.elsa_program.proofs.chunk.RefStrChunk.cut.Goals as goal

pub range_from-requires : goal.range_from-requires
range_from-requires c =
    λ _. boundary_behind c.args.self.now c.in_ok-line.line.now c.in_ok-line._later.now (sym c.as_bytes.ensures.value ∙ c.in_ok-line.ensures.1) (rw c.as_bytes.ensures.value at c.as_bytes.ensures.utf8)

pub returns : goal.returns
returns c =
    parts_of_text c.args.self.now c.in_ok-line.line.now c.in_ok-line._later.now c.range.result.now c.range_from.result.now
    (sym c.as_bytes.ensures.value ∙ c.in_ok-line.ensures.1) c.in_ok-line.ensures.0 c.range.ensures.value c.range_from.ensures.value
