-- What the thread that has the lock has written and not published, and the slots of the open
-- buffers.
use Rattle.std.proofs.Common.{ℕ, ◌+◌, ◌*◌, ◌≤◌, ◌≡◌, Bool, List, [], ◌++◌, length, Option, Some, None, slice_get, take, refl, arith, ap, sym, ◌∙◌, subst}
use Rattle.std.specs.Bool.{if◌then◌else◌}
use Rattle.std.proofs.lemmas.List.{append-nil}
use Rattle.elsa_machine.specs.declared.machine.Plan.{Plan}
use Rattle.elsa_machine.specs.declared.machine.Plan.TheVariants.{Pusher, Extender, Reader, Cloner}
use Rattle.elsa_machine.specs.declared.machine.Turn.{Turn}
use Rattle.elsa_machine.specs.declared.machine.World.{World}
use Rattle.elsa_machine.specs.declared.machine.turns.Phase.{Phase}
use Rattle.elsa_machine.specs.declared.machine.turns.Phase.TheVariants.{Ready, Peeked, Acquired, Written, Filling, Denied, Looked, Done}
use Rattle.elsa_machine.specs.declared.machine.turns.Thread.{Thread}
use Rattle.elsa_slots.specs.Geometry.{slots_before}
use Rattle.elsa_machine.specs.Machine.{world_of, machine_of}
use Rattle.elsa_machine.specs.Worlds.{written_by, list_of, placed, AreAhead, AreWritten, HasFewSlots, HasWritesInOrder, is_extender, is_extending, items_placed}
use Rattle.elsa_machine.specs.Turns.{IsHolding}
use Rattle.elsa_slots.proofs.GeometryLemmas.Powers.{before_power}
use Rattle.elsa_machine.proofs.MachineLemmas.Kept.{written_by_length, take_length, writes_length, HolderOk, next_items, one_of, WorldOk}
use Rattle.elsa_machine.proofs.MachineLemmas.Pushers.{IsPushing}
use Rattle.elsa_machine.proofs.MachineLemmas.Extenders.{IsExtending}
use Rattle.elsa_machine.proofs.MachineLemmas.Threads.{ThreadOk}
use Rattle.elsa_machine.proofs.MachineLemmas.Runs.{sound}
use Rattle.elsa_machine.proofs.MachineLemmas.Holds.{holder, never_looks}

-- The writes are those of the list and of entries that a thread with this plan has written.
abbrev pub HasAhead : {A : Type 0} → Plan A → ℕ → World A → Type 0
HasAhead plan me w = (ahead : List (ℕ × ℕ)) × (w.writes ≡ placed 0 (list_of w.events ++ ahead)) × AreWritten plan me ahead

-- No entry is written and not published.
none_ahead : {A : Type 0} (w : World A) → w.writes ≡ placed 0 (list_of w.events) → w.writes ≡ placed 0 (list_of w.events ++ [])
none_ahead w h = h ∙ ap (placed 0) (sym (append-nil (list_of w.events)))

pusher_ahead : {A : Type 0} (items : List ℕ) (me : ℕ) (w : World A) (item : Option ℕ) (call : List ℕ) (phase : Phase) → HolderOk w me call phase → IsPushing item phase → IsHolding phase → HasAhead (Pusher items) me w
pusher_ahead items me w item call Ready h q k = absurd k
pusher_ahead items me w item call (Peeked n) h q k = absurd k
pusher_ahead items me w item call (Acquired n) h q k = ([], none_ahead w h.1, omega arith)
pusher_ahead items me w item call (Written n) h q k = (written_by me call, h.1, (let l = written_by_length me call in omega (arith, l, h.5)))
pusher_ahead items me w item call (Filling n m) h q k = absurd q
pusher_ahead items me w item call Denied h q k = ([], none_ahead w h.1, omega arith)
pusher_ahead items me w item call (Looked n) h q k = absurd k
pusher_ahead items me w item call Done h q k = absurd k

-- The first entries of an extender.
first_items : (me : ℕ) (items : List ℕ) (k : ℕ) → k ≤ length items → written_by me (take k items) ≡ written_by me (take (length (written_by me (take k items))) items)
first_items me items k l = ap (λ n. written_by me (take n items)) (sym (written_by_length me (take k items) ∙ take_length k items l))

extender_ahead : {A : Type 0} (items : List ℕ) (me next : ℕ) (w : World A) (phase : Phase) → HolderOk w me items phase → IsExtending next phase → IsHolding phase → HasAhead (Extender items) me w
extender_ahead items me next w Ready h q k = absurd k
extender_ahead items me next w (Peeked n) h q k = absurd k
extender_ahead items me next w (Acquired n) h q k = ([], none_ahead w h.1, first_items me items 0 (omega arith))
extender_ahead items me next w (Written n) h q k = absurd q
extender_ahead items me next w (Filling n m) h q k = (written_by me (take m items), h.1, first_items me items m h.3)
extender_ahead items me next w Denied h q k = ([], none_ahead w h.1, first_items me items 0 (omega arith))
extender_ahead items me next w (Looked n) h q k = absurd k
extender_ahead items me next w Done h q k = absurd k

plan_ahead : {A : Type 0} (plan : Plan A) (me : ℕ) (w : World A) (t : Thread A) → HolderOk w me (next_items plan t.next) t.phase → ThreadOk plan me w t → IsHolding t.phase → HasAhead plan me w
plan_ahead (Pusher items) me w t h o k = pusher_ahead items me w (slice_get items t.next) (one_of (slice_get items t.next)) t.phase h o.pushing k
plan_ahead (Extender items) me w t h o k = extender_ahead items me t.next w t.phase h o.extending k
plan_ahead (Reader is) me w t h o k = absurd (never_looks (Reader is) me w t t.phase refl o k tt)
plan_ahead Cloner me w t h o k = absurd (never_looks Cloner me w t t.phase refl o k tt)

-- The writes of every schedule are those of the list, in order, and those of the thread that has
-- the lock.
pub writes_in_order : {A : Type 0} (plans : List (Plan A)) (schedule : List Turn) → HasWritesInOrder plans (world_of plans schedule)
writes_in_order plans schedule =
    let w = world_of plans schedule in
    let s = sound plans schedule in
    let G : Type 0 = HasWritesInOrder plans w in
    let F : Option ℕ → Type 0 = λ h. w.held ≡ h → G in
    (elim w.held as F [
      | None ↦ λ e. ([], none_ahead w (s.world.free e), subst (λ h. AreAhead plans h []) (sym e) refl)
      | Some me ↦ λ e.
          let o = holder plans (machine_of plans schedule) me s e in
          let a = plan_ahead o.0 me w o.1.0 (s.threads me o.0 o.1.0 o.1.1 o.1.2) (s.told me o.0 o.1.0 o.1.1 o.1.2) o.1.3 in
          (a.0, a.1, subst (λ h. AreAhead plans h a.0) (sym e) (o.0, o.1.1, a.2))
    ]) refl

-- The number of slots, while a pusher has the lock.
pusher_slots : {A : Type 0} (w : World A) (me : ℕ) (item : Option ℕ) (call : List ℕ) (phase : Phase) → WorldOk w → HolderOk w me call phase → IsPushing item phase → IsHolding phase → slots_before w.opened ≤ 4 * w.length + 3
pusher_slots w me item call Ready ok h q k = absurd k
pusher_slots w me item call (Peeked n) ok h q k = absurd k
pusher_slots w me item call (Acquired n) ok h q k = let l = writes_length w ok.counted h.1 in omega (arith, l, ok.slots)
pusher_slots w me item call (Written n) ok h q k = omega (arith, h.4, h.2)
pusher_slots w me item call (Filling n m) ok h q k = absurd q
pusher_slots w me item call Denied ok h q k = let l = writes_length w ok.counted h.1 in omega (arith, l, ok.slots)
pusher_slots w me item call (Looked n) ok h q k = absurd k
pusher_slots w me item call Done ok h q k = absurd k

-- The number of slots, while a thread with this plan has the lock.
plan_slots : {A : Type 0} (plan : Plan A) (me : ℕ) (w : World A) (t : Thread A) → WorldOk w → HolderOk w me (next_items plan t.next) t.phase → ThreadOk plan me w t → IsHolding t.phase →
    slots_before w.opened ≤ 4 * (if is_extender (Some plan) then length w.writes else w.length) + 3
plan_slots (Pusher items) me w t ok h o k = pusher_slots w me (slice_get items t.next) (one_of (slice_get items t.next)) t.phase ok h o.pushing k
plan_slots (Extender items) me w t ok h o k = ok.slots
plan_slots (Reader is) me w t ok h o k = absurd (never_looks (Reader is) me w t t.phase refl o k tt)
plan_slots Cloner me w t ok h o k = absurd (never_looks Cloner me w t t.phase refl o k tt)

-- After every schedule, the number of slots is at most four for each item, plus 3.
slots_few : {A : Type 0} (plans : List (Plan A)) (schedule : List Turn) → let w = world_of plans schedule in slots_before w.opened ≤ 4 * items_placed plans w + 3
slots_few plans schedule =
    let w = world_of plans schedule in
    let s = sound plans schedule in
    let P : Bool → Type 0 = λ b. slots_before w.opened ≤ 4 * (if b then length w.writes else w.length) + 3 in
    let F : Option ℕ → Type 0 = λ h. w.held ≡ h → P (is_extending plans w.held) in
    (elim w.held as F [
      | None ↦ λ e. subst (λ h. P (is_extending plans h)) (sym e) (let l = writes_length w s.world.counted (s.world.free e) in omega (arith, l, s.world.slots))
      | Some me ↦ λ e.
          let o = holder plans (machine_of plans schedule) me s e in
          let a = plan_slots o.0 me w o.1.0 s.world (s.threads me o.0 o.1.0 o.1.1 o.1.2) (s.told me o.0 o.1.0 o.1.1 o.1.2) o.1.3 in
          subst (λ h. P (is_extending plans h)) (sym e) (subst (λ p. P (is_extender p)) (sym o.1.1) a)
    ]) refl

-- The open buffers of every schedule have few slots.
pub few_slots : {A : Type 0} (plans : List (Plan A)) (schedule : List Turn) → HasFewSlots plans (world_of plans schedule)
few_slots plans schedule =
    let w = world_of plans schedule in
    let s = (sound plans schedule).world in
    let p = before_power w.opened in
    record { sum_is = omega (arith, p); at_most = slots_few plans schedule; openable = s.buffers; in_open_buffers = s.room }
