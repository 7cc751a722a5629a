-- Why an insertion by a closure failed.
use Rattle.elsa_maps.specs.declared.map.frozen.InsertFault.{InsertFault}
use Rattle.elsa_maps.specs.declared.map.frozen.InsertFault.TheVariants.{Memory, Value}

-- P of the closure's error, if that error is the reason of the failure.
abbrev pub IfCause : {E : Type 0} → InsertFault E → (E → Type 0) → Type 0
IfCause Memory P = Unit
IfCause (Value e) P = P e
