-- What an insertion that doesn't wait returns if it inserted nothing.
use Rattle.elsa_lock_free.specs.declared.may_lock.AttemptFault.{AttemptFault}
use Rattle.elsa_lock_free.specs.declared.may_lock.AttemptFault.TheVariants.{Busy, Failed}

module _ {T E : Type 0} where
  -- if another thread had the lock, this holds of what the caller gets back
  abbrev pub IfBusy : AttemptFault T E → (T → Type 0) → Type 0
  IfBusy (Busy x) P = P x
  IfBusy (Failed e) P = Unit {0}

  -- if the insertion failed for another reason, this holds of its error
  abbrev pub IfFailed : AttemptFault T E → (E → Type 0) → Type 0
  IfFailed (Busy x) P = Unit {0}
  IfFailed (Failed e) P = P e
