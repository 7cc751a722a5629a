-- What holds of what a caller gets back, if another thread had the lock.
use Rattle.elsa_lock_free.specs.declared.may_lock.AttemptFault.{AttemptFault}
use Rattle.elsa_lock_free.specs.declared.may_lock.AttemptFault.TheVariants.{Busy, Failed}
use Rattle.elsa_lock_free.specs.Attempts.{IfBusy}

module _ {T E : Type 0} where
  -- what follows of it holds too
  pub busy_then : (f : AttemptFault T E) (P Q : T → Type 0) → ((x : T) → P x → Q x) → IfBusy f P → IfBusy f Q
  busy_then (Busy x) P Q h p = h x p
  busy_then (Failed e) P Q h p = tt
