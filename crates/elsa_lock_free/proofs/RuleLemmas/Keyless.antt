-- What the rule owns names no token of one thread.
use Rattle.std.proofs.Common.{ℕ, zero, suc, length, Bool, true, false, List, [], ◌∷◌, ◌++◌, drop as drops}
use base.Growing.{latest}
use base.Shift.{Keyless}
use types.Keyed.{entry_keyless, token}
use denote.RattleType.{RattleType}
use Rattle.elsa_slots.specs.Slot.{write_rights}
use Rattle.elsa_lock_free.specs.declared.event.Entry.{Entry}
use Rattle.elsa_lock_free.specs.declared.event.Event.{Event}
use Rattle.elsa_lock_free.specs.SharedList.{items_of}
use Rattle.elsa_lock_free.specs.History.{list_of, is_held}
use Rattle.elsa_lock_free.specs.Rights.{Tail, at_new_buffer, in_buffer, tail_rights, free_rights, prefix_written, one_ticket, tickets, position, buffer_slots_of, rule_owns}

write_rights_keyless : (γs : List ℕ) → Keyless (write_rights γs)
write_rights_keyless [] = tt
write_rights_keyless (γ ∷ γs) = (tt, write_rights_keyless γs)

position_keyless : {T : Type 0} (names : List ℕ) (xs : List (Event T)) → Keyless (position names xs)
unfolding latest
position_keyless names xs = tt

one_ticket_keyless : {T : Type 0} (pre : List (Entry T)) (a : ℕ) → Keyless (one_ticket pre a)
one_ticket_keyless pre zero = tt
one_ticket_keyless pre (suc a) = λ k. (entry_keyless token a k tt, λ _. tt)

tickets_keyless : {T : Type 0} (pre es : List (Entry T)) → Keyless (tickets pre es)
tickets_keyless pre [] = tt
tickets_keyless pre (e ∷ es) = (one_ticket_keyless pre e.writer, tickets_keyless (pre ++ e ∷ []) es)

module _ (T B : RattleType) (slot_names : B.Denot → List ℕ) (fits : B.Denot → T.Denot → Type 0) where
  tail_rights_keyless : (buffer_slots : List ℕ) (r : Tail B.Denot) → Keyless (tail_rights T B slot_names fits buffer_slots r)
  tail_rights_keyless buffer_slots (at_new_buffer b) = write_rights_keyless (drops b buffer_slots)
  tail_rights_keyless buffer_slots (in_buffer b j opened) = (tt, (write_rights_keyless (drops j (slot_names opened)), write_rights_keyless (drops (suc b) buffer_slots)))

  free_rights_keyless : (b : Bool) (buffer_slots : List ℕ) (n : ℕ) → Keyless (free_rights T B slot_names fits b buffer_slots n)
  free_rights_keyless true buffer_slots n = tt
  free_rights_keyless false buffer_slots n = λ r. ((λ _. tt), tail_rights_keyless buffer_slots r)

  prefix_written_keyless : (buffer_slots : List ℕ) (i : ℕ) (es : List T.Denot) → Keyless (prefix_written T B slot_names fits buffer_slots i es)
  prefix_written_keyless buffer_slots i [] = tt
  prefix_written_keyless buffer_slots i (e ∷ es) = ((λ w. ((λ _. tt), (tt, tt))), prefix_written_keyless buffer_slots (suc i) es)

  pub rule_owns_keyless : (names : List ℕ) (log : List (Event T.Denot)) → Keyless (rule_owns T B slot_names fits names log)
  rule_owns_keyless names log = ((position_keyless names log, free_rights_keyless (is_held log) (buffer_slots_of names) (length (list_of log))), (prefix_written_keyless (buffer_slots_of names) 0 (items_of (list_of log)), tickets_keyless [] (list_of log)))
