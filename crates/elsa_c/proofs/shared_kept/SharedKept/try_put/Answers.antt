use Rattle.std.proofs.Common.{◌∙◌}
use Rattle.std.specs.Prelude.{IfErr}
use Rattle.std_alloc.specs.String.{string_bytes}
use Rattle.elsa_lock_free.specs.SharedList.{IsLaterPass}
use Rattle.elsa_c.specs.Shared.{IsUnput}
use Rattle.elsa_c.proofs.SharedLemmas.{later_texts, moved}
use Rattle.elsa_c.proofs.shared_kept.SharedKept.try_put.Goals as goal

pub returns-clause-later : goal.returns-clause-later
returns-clause-later c =
    moved string_bytes IsLaterPass c.args.self.now c.self.inside.pass c.of-names.result c.attempt-number.new.names c.into_pass.result c.self.view_is (c.of-names.ensures.same_view ∙ c.replace.ensures.value) c.into_pass.ensures.same_view
    (later_texts string_bytes c.of-names.result c.attempt-number.new.names c.attempt-number.ensures.later)

pub returns-clause-fault : goal.returns-clause-fault
returns-clause-fault c =
    moved string_bytes (λ a b. IfErr c.attempt-number.result (IsUnput c.args.text.now a b)) c.args.self.now c.self.inside.pass c.of-names.result c.attempt-number.new.names c.into_pass.result c.self.view_is (c.of-names.ensures.same_view ∙ c.replace.ensures.value) c.into_pass.ensures.same_view
    c.attempt-number.ensures.fault
