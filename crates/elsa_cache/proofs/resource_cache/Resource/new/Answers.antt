use Rattle.std.proofs.Common.{ℕ, length, encode_utf8, sym, subst, ap, ◌∙◌}
use Rattle.std.specs.Str.{IsCharBoundary}
use Rattle.std.proofs.lemmas.Str.{IsCharBoundary-at_seam, IsUtf8-past_char, length-encode}
use Rattle.elsa_cache.proofs.FirstCharacters.{first_cut, no_first}
use Rattle.elsa_cache.proofs.resource_cache.Resource.new.Goals as goal

pub range-requires-clause-end_boundary : goal.range-requires-clause-end_boundary
range-requires-clause-end_boundary c =
    let whole = sym c.chars-rest.ensures.rest ∙ c.in-Some.ensures.steps.0 in
    let cut : IsCharBoundary c.args.text.now (length (encode_utf8 c.in-Some.character)) = IsCharBoundary-at_seam c.args.text.now (encode_utf8 c.in-Some.character) c.next.new.self.rest.now whole (IsUtf8-past_char c.args.text.now c.next.new.self.rest.now c.in-Some.character c.utf8.text whole) in
    subst (λ (n : ℕ). IsCharBoundary c.args.text.now n) (length-encode c.in-Some.character ∙ sym c.len_utf8.ensures.value) cut

pub returns : goal.returns
returns c = c.range.ensures.value ∙ first_cut c.args.text.now c.next.new.self.rest.now c.in-Some.character c.len_utf8.result c.utf8.text (sym c.chars-rest.ensures.rest ∙ c.in-Some.ensures.steps.0) c.len_utf8.ensures.value

pub returns-in_default : goal.returns-in_default
returns-in_default c = no_first c.args.text.now (ap length (sym c.chars-rest.ensures.rest) ∙ c.in_default.ensures.steps.0.0)
