use Rattle.std.proofs.Common.{◌∙◌}
use Rattle.std_alloc.specs.String.{string_bytes}
use Rattle.elsa_lock_free.specs.SharedList.{Continues}
use Rattle.elsa_c.proofs.SharedLemmas.{continue_texts, moved}
use Rattle.elsa_c.proofs.shared_kept.SharedKept.text_at.Goals as goal

pub returns-clause-continues : goal.returns-clause-continues
returns-clause-continues c =
    moved string_bytes Continues c.args.self.now c.self.inside.pass c.of-names.result c.len.new.self c.into_pass.result c.self.view_is (c.of-names.ensures.same_view ∙ c.replace.ensures.value) c.into_pass.ensures.same_view
    (continue_texts string_bytes c.of-names.result c.len.new.self c.len.ensures.continues)
