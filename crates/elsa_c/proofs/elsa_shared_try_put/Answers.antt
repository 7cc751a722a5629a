use Rattle.std.proofs.Common.{◌∙◌, Some, ap, refl, subst, sym}
use Rattle.elsa_lock_free.specs.SharedList.{IsLaterPass}
use Rattle.elsa_c.specs.declared.fault.Fault.TheVariants.{NotUtf8, NoNames}
use Rattle.elsa_c.specs.Shared.{IsAttempt}
use Rattle.elsa_c.proofs.SharedLemmas.{failed, remains, stayed}
use Rattle.elsa_c.proofs.elsa_shared_try_put.Goals as goal

pub returns-in_default-clause-status : goal.returns-in_default-clause-status
returns-in_default-clause-status c = (Some NotUtf8, c.code.ensures, (c.in_default.ensures.cases.0, refl, refl))

pub returns-in_default-clause-later : goal.returns-in_default-clause-later
returns-in_default-clause-later c = stayed IsLaterPass remains c.args.names.now.handle.value c.args.names.now.handle.value refl

pub returns-in_default-take-clause-status : goal.returns-in_default-take-clause-status
returns-in_default-take-clause-status c = (Some NoNames, c.code-in_default-take.ensures, (c.in_default-take.ensures.taken, c.take.ensures.empty, refl))

pub returns-in-Err-clause-status : goal.returns-in-Err-clause-status
returns-in-Err-clause-status c = (
  Some c.in-Err.fault,
  c.code-in-Err.ensures,
  subst (λ t. IsAttempt t c.args.names.now.handle.value c.restore.new.self.handle.value c.args.code.now c.args.code.now (Some c.in-Err.fault)) c.in-Ok.ensures.cases.0
      (failed c.in-Ok.text.now c.args.names.now.handle.value c.restore.new.self.handle.value c.deref_mut.result.now c.try_put-put.new.self c.args.code.now c.in-Err.fault
      (c.in-Some.ensures.taken ∙ ap Some (sym c.deref_mut.ensures.value)) c.restore.ensures.names c.in-Err.ensures.fault),
)
