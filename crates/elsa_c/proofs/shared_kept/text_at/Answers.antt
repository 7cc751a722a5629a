use Rattle.std.proofs.Common.{◌∙◌, Some, ap, sym}
use Rattle.std_alloc.specs.String.{string_bytes}
use Rattle.elsa_c.proofs.SharedLemmas.{text_at}
use Rattle.elsa_c.proofs.shared_kept.text_at.Goals as goal

pub returns : goal.returns
returns c = record { text = ap Some c.as_str.ensures.value ∙ sym (text_at string_bytes c.args.names.now.seen c.args.number c.item.result.now c.item.ensures) }
