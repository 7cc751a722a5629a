-- The permissions that the rule of a vector owns next to its history, and those that a thread gains at each step.
-- While no thread has the lock, the rule has the right to release it. At an acquire most of it goes to the thread that
-- locks, with the rights to open further buffers and to write the slots from the length on; the release returns it. For
-- each index below the length the rule has the evidence that its slot was written with the list's item, and for each
-- entry that has a writer a ticket of that writer. Nothing else is exchanged.
use Rattle.std.specs.Prelude.{ℕ, zero, suc, ◌≡◌, ◌+◌, ◌*◌, ◌^◌, ◌<◌, ◌≤◌, ◌⊎◌, Bool, true, false, List, [], ◌∷◌, ◌++◌, length, drop, slice_index_or}
use base.Fraction.{full_share}
use base.Share.{quarter, three_quarters}
use base.Stored.{coded_ℕ}
use base.Fml.{Share, Fml, ftrue, fsep, fex}
use base.Growing.{Order, prefixes, latest}
use types.Keyed.{ticket, tickets_from}
use denote.RattleType.{RattleType}
use Rattle.elsa_slots.specs.Slot.{written, write_rights}
pub use Rattle.elsa_slots.specs.WrittenPrefix.{Location, index_written_at, index_written, prefix_written}
use Rattle.elsa_slots.specs.Geometry.{IsAt}
use Rattle.elsa_lock_free.specs.declared.event.Entry.{Entry}
use Rattle.elsa_lock_free.specs.declared.event.Event.{Event}
use Rattle.elsa_lock_free.specs.declared.event.Event.TheVariants.{Acquired, Published, Extended, Cloned, Released, OfferOf}
use Rattle.elsa_lock_free.specs.SharedList.{written_by, copied, count, items_of}
use Rattle.elsa_lock_free.specs.AtomicSteps.{Acquires as IsAcquire, Extends as IsExtension, Looks as IsLook, Opens as IsOpening, Publishes as IsPublish, Releases as IsRelease}
use Rattle.elsa_lock_free.specs.History.{list_of, is_held, shared_by, added, writer_of, used_of, pushes_of, others}

-- the histories of added, by how they grow
abbrev pub logs : Order (List ℕ)
logs = prefixes coded_ℕ

-- the name of the right to end a hold
abbrev pub head : List ℕ → ℕ
head [] = 0
head (n ∷ ns) = n

-- the names of the slots that hold the buffers
abbrev pub buffer_slots_of : List ℕ → List ℕ
buffer_slots_of [] = []
buffer_slots_of (n ∷ ns) = ns

-- how much of the right to end a hold the rule owns
abbrev pub part : Bool → Share
part true = quarter
part false = full_share

-- a plain fact, as what is owned
abbrev pub fact : Type 0 → Fml
fact φ = fex φ (λ _. ftrue)

-- the slot of the next index: the first of a buffer that no thread has opened, or a slot of an open buffer
pub data Tail (B : Type 0) : Type 0 where
  at_new_buffer : ℕ → Tail B
  in_buffer : ℕ → ℕ → B → Tail B

-- what a pass owns: all its tickets but those of the entries that it has pushed
abbrev pub writer : ℕ → ℕ → Fml
writer a n = tickets_from a n

module _ {T : Type 0} where
  -- this is the history, by this share of the right to end a hold
  abbrev pub at_log : Share → List ℕ → List (Event T) → Fml
  at_log q names log = latest logs q (head names) (added log)

  -- the rule's part: all of it while no thread has the lock
  abbrev pub position : List ℕ → List (Event T) → Fml
  position names log = at_log (part (is_held log)) names log

  -- the holder's part
  abbrev pub right : List ℕ → List (Event T) → Fml
  right names log = at_log three_quarters names log

  -- a ticket of this writer, whose number is no less than the number of its entries so far. An item without a writer needs none
  abbrev pub one_ticket : List (Entry T) → ℕ → Fml
  one_ticket pre zero = ftrue
  one_ticket pre (suc a) = fex ℕ (λ k. fsep (ticket a k) (fact (count (suc a) pre ≤ k)))

  -- a ticket for each of these entries, which come after the entries `pre`
  abbrev pub tickets : List (Entry T) → List (Entry T) → Fml
  tickets pre [] = ftrue
  tickets pre (e ∷ es) = fsep (one_ticket pre e.writer) (tickets (pre ++ e ∷ []) es)

  -- How a step moves the history, by the event of its offer, and which atomic step that is. Its result is the history before. A
  -- holder's last step is offered whether its exchange succeeds or not. The items of a clone are published into an empty
  -- list, while no other thread has the vector
  abbrev pub IsStep : Event T → List (Event T) → List (Event T) → List (Event T) → Type 0
  IsStep Acquired xs ys r = (r ≡ xs) × ((ys ≡ xs ++ Acquired ∷ []) × IsAcquire (length (list_of xs)) (shared_by xs) (shared_by ys))
  IsStep (Published x) xs ys r = (r ≡ xs) × ((ys ≡ xs) ⊎ ((ys ≡ xs ++ Published x ∷ []) × IsPublish x (shared_by xs) (shared_by ys)))
  IsStep (Extended a cs) xs ys r = (r ≡ xs) × ((ys ≡ xs) ⊎ ((ys ≡ xs ++ Extended a cs ∷ []) × IsExtension (written_by a cs) (shared_by xs) (shared_by ys)))
  IsStep (Cloned cs) xs ys r = (r ≡ xs) × ((ys ≡ xs) ⊎ ((ys ≡ xs ++ Cloned cs ∷ []) × IsOpening (copied cs) (shared_by xs) (shared_by ys)))
  IsStep Released xs ys r = (r ≡ xs) × ((ys ≡ xs) ⊎ ((ys ≡ xs ++ Released ∷ []) × IsRelease (shared_by xs) (shared_by ys)))
  IsStep (OfferOf a n) xs ys r = (r ≡ xs) × ((ys ≡ xs) × IsLook (length (list_of xs)) (shared_by xs) (shared_by ys))

  -- the pass of an offer learns that the number of its own entries is at most the number that it pushed
  abbrev pub OnlyPushed : List (Event T) → List (Event T) → Type 0
  OnlyPushed about r = count (suc (writer_of about)) (list_of r) ≤ used_of about

-- T is the item's type, B that of a buffer, and ids the slots of a buffer
module _ (T B : RattleType) (slot_names : B.Denot → List ℕ) (fits : B.Denot → T.Denot → Type 0) where
  -- the next index is the index n
  abbrev pub IsTailAt : ℕ → Tail B.Denot → Type 0
  IsTailAt n (at_new_buffer b) = n + 1 ≡ 4 ^ b
  IsTailAt n (in_buffer b j opened) = IsAt n b j × (0 < j) × (length (slot_names opened) ≡ 3 * 4 ^ b)

  -- the rights to append there
  abbrev pub tail_rights : List ℕ → Tail B.Denot → Fml
  tail_rights buffer_slots (at_new_buffer b) = write_rights (drop b buffer_slots)
  tail_rights buffer_slots (in_buffer b j opened) = fsep (written B (slice_index_or buffer_slots b 0) opened) (fsep (write_rights (drop j (slot_names opened))) (write_rights (drop (suc b) buffer_slots)))

  -- the same, for the index n
  abbrev pub tail_owns : List ℕ → ℕ → Tail B.Denot → Fml
  tail_owns buffer_slots n r = fsep (fact (IsTailAt n r)) (tail_rights buffer_slots r)

  -- the rights to open the further buffers, and to write the slots from n on
  abbrev pub rights_from : List ℕ → ℕ → Fml
  rights_from buffer_slots n = fex (Tail B.Denot) (tail_owns buffer_slots n)

  -- the rule has the rights to append while no thread has the lock
  abbrev pub free_rights : Bool → List ℕ → ℕ → Fml
  free_rights true buffer_slots n = ftrue
  free_rights false buffer_slots n = rights_from buffer_slots n

  -- all that the rule owns
  abbrev pub rule_owns : List ℕ → List (Event T.Denot) → Fml
  rule_owns names log = fsep (fsep (position names log) (free_rights (is_held log) (buffer_slots_of names) (length (list_of log))))
      (fsep (prefix_written T B slot_names fits (buffer_slots_of names) 0 (items_of (list_of log))) (tickets [] (list_of log)))

  -- What a thread gains at each step. At an acquire: the right to end the hold, and the rights to write from the length on;
  abbrev pub acquire_gain : List ℕ → List (Event T.Denot) → Fml
  acquire_gain names r = fsep (right names (r ++ Acquired ∷ [])) (rights_from (buffer_slots_of names) (length (list_of r)))

  -- at a read of the length: the evidence for the whole list, and the pass's tickets back;
  abbrev pub read_gain : List ℕ → List (Event T.Denot) → List (Event T.Denot) → Fml
  read_gain names about r = fsep (prefix_written T B slot_names fits (buffer_slots_of names) 0 (items_of (list_of r))) (fsep (writer (writer_of about) (used_of about)) (fact (OnlyPushed about r)))

  -- at the end of a hold: the pass's tickets back, with one fewer where it published an entry, and that the history was as it knew
  abbrev pub release_gain : List (Event T.Denot) → List (Event T.Denot) → Fml
  release_gain about r = fsep (writer (writer_of about) (used_of about)) (fact ((length r ≡ length (others about)) × OnlyPushed about r))

  -- at a publish, one ticket fewer comes back
  abbrev pub publish_gain : List (Event T.Denot) → List (Event T.Denot) → Fml
  publish_gain about r = fsep (writer (writer_of about) (suc (used_of about))) (fact ((length r ≡ length (others about)) × OnlyPushed about r))

  -- at a publish of several items, minus one ticket for each: the offer has their number before its history
  abbrev pub extend_gain : List (Event T.Denot) → List (Event T.Denot) → Fml
  extend_gain about r = fsep (writer (writer_of about) (used_of about + pushes_of (others about))) (fact ((length r ≡ length (others (others about))) × OnlyPushed about r))
