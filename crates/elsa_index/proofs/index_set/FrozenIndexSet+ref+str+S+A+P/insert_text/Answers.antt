use Rattle.std.proofs.Common.{◌∙◌}
use Rattle.elsa_index.proofs.Texts.{found_text}
use Rattle.elsa_index.specs.Texts.{reads}
use Rattle.elsa_maps.proofs.Indices.{found_at}
use Rattle.elsa_index.proofs.index_set.FrozenIndexSet+ref+str+S+A+P.insert_text.Goals as goal

-- The text at the index that a search for the given text finds has its bytes.
pub returns-clause-reads : goal.returns-clause-reads
returns-clause-reads g c =
    let text = c.args.text.now in
    let kept = c.insert_full_text.new.self in
    let done = c.in_ok-stored.ensures in
    found_text text kept c.in_ok-stored.stored (found_at (reads text) kept _ done.index_after ∙ done.value_after)
