-- If the lock is free, an extender with more items than a list can have acquires the lock when it runs alone, and its
-- call fails, which releases it.
use Rattle.std.proofs.Common.{ℕ, zero, suc, ◌+◌, ◌^◌, ◌<◌, ◌≤◌, ◌≡◌, ◌⊎◌, Bool, true, false, ◌&&◌, ◌||◌, ◌==◌, nat_le, List, [], ◌∷◌, ◌++◌, length, Some, None, slice_get, refl, arith, inl, inr, ap, sym, ◌∙◌, subst, true≢false}
use Rattle.std.specs.Bool.{if◌then◌else◌}
use Rattle.std.specs.List.{fold}
use Rattle.std.specs.Prelude.{is_none}
use Rattle.std.proofs.lemmas.Bool.{le-ltb}
use Rattle.std.proofs.lemmas.List.Sums.{fold-append}
use Rattle.std.proofs.lemmas.Option.{slice_get_within}
use Rattle.elsa_machine.specs.declared.machine.Plan.{Plan}
use Rattle.elsa_machine.specs.declared.machine.Plan.TheVariants.{Extender}
use Rattle.elsa_machine.specs.declared.machine.Turn.{Turn}
use Rattle.elsa_machine.specs.declared.machine.Answer.TheVariants.{Refused}
use Rattle.elsa_machine.specs.declared.machine.World.{World}
use Rattle.elsa_machine.specs.declared.machine.turns.Phase.{Phase}
use Rattle.elsa_machine.specs.declared.machine.turns.Phase.TheVariants.{Ready, Peeked, Acquired, Written, Filling, Denied, Looked, Done}
use Rattle.elsa_machine.specs.declared.machine.turns.Thread.{Thread}
use Rattle.elsa_slots.specs.Geometry.{slots_before}
use Rattle.elsa_machine.specs.Machine.{can_reserve, Moved, thread_turn, Machine, turned, opening, machine_of, world_of}
use Rattle.elsa_machine.specs.Worlds.{answers_of, list_of}
use Rattle.elsa_machine.specs.Progress.{turns_alone}
use Rattle.elsa_machine.proofs.MachineLemmas.Rules.{IsExtenderIdle, Transition, transition, stays, peeks, acquires, loses, refuses, reserves, lacks, fills, fill_opens, extends}
use Rattle.elsa_machine.proofs.MachineLemmas.Kept.{HolderOk, freed}
use Rattle.elsa_machine.proofs.MachineLemmas.Growth.{eqb_same, entry_at}
use Rattle.elsa_machine.proofs.MachineLemmas.Extenders.{IsExtending}
use Rattle.elsa_machine.proofs.MachineLemmas.Runs.{sound}
use Rattle.elsa_machine.proofs.MachineLemmas.Moments.{turned_is, own_turn}
use Rattle.elsa_machine.proofs.MachineLemmas.Solo.{lost}

-- What each phase of such an extender implies: the lock is free until it acquires the lock.
abbrev IsOnRefusal : {A : Type 0} → World A → Phase → Type 0
IsOnRefusal w Ready = w.held ≡ None
IsOnRefusal w (Peeked n) = w.held ≡ None
IsOnRefusal w (Acquired n) = Unit {0}
IsOnRefusal w (Written n) = ⊥
IsOnRefusal w (Filling n k) = ⊥
IsOnRefusal w Denied = Unit {0}
IsOnRefusal w (Looked n) = ⊥
IsOnRefusal w Done = ⊥

-- Nothing was pushed or returned since the world v.
record OnRefusal {A : Type 0} (v w : World A) (t : Thread A) : Type 0 where
  events_are : list_of w.events ≡ list_of v.events
  answers_are : w.answers ≡ v.answers
  due : t.next ≡ 0
  on : IsOnRefusal w t.phase

-- The call of this thread failed, and nothing else happened.
pub record IsRefused {A : Type 0} (thread : ℕ) (before after : World A) : Type 0 where
  pub list_is : list_of after.events ≡ list_of before.events
  pub answers_are : after.answers ≡ before.answers ++ Refused thread ∷ []
  pub is_free : after.held ≡ None

-- The number of turns that it still needs.
abbrev refusal_left : {A : Type 0} → World A → Phase → ℕ
refusal_left w Ready = 4
refusal_left w (Peeked n) = if w.length == n then 3 else 5
refusal_left w (Acquired n) = 2
refusal_left w (Written n) = 1
refusal_left w (Filling n k) = 1
refusal_left w Denied = 1
refusal_left w (Looked n) = 1
refusal_left w Done = 1

three_or_five : (b : Bool) → (0 < (if b then 3 else 5)) × ((if b then 3 else 5) ≤ 5)
three_or_five true = (omega arith, omega arith)
three_or_five false = (omega arith, omega arith)

refusal_few : {A : Type 0} (w : World A) (phase : Phase) → (0 < refusal_left w phase) × (refusal_left w phase ≤ 5)
refusal_few w Ready = (omega arith, omega arith)
refusal_few w (Peeked n) = three_or_five (w.length == n)
refusal_few w (Acquired n) = (omega arith, omega arith)
refusal_few w (Written n) = (omega arith, omega arith)
refusal_few w (Filling n k) = (omega arith, omega arith)
refusal_few w Denied = (omega arith, omega arith)
refusal_few w (Looked n) = (omega arith, omega arith)
refusal_few w Done = (omega arith, omega arith)

-- There are not that many indices.
no_room : (opened end : ℕ) → 2 ^ 62 ≤ end → can_reserve true opened end ≡ false
no_room opened end many = ap (λ b. b && (true || nat_le end (slots_before opened))) (le-ltb end (2 ^ 62) many)

refusal_idle : {A : Type 0} (w : World A) (phase : Phase) → IsOnRefusal w phase → IsExtenderIdle true w phase → ⊥
refusal_idle w Ready o i = true≢false (sym (ap is_none o) ∙ i)
refusal_idle w (Peeked n) o i = i
refusal_idle w (Acquired n) o i = i
refusal_idle w (Written n) o i = o
refusal_idle w (Filling n k) o i = i
refusal_idle w Denied o i = i
refusal_idle w (Looked n) o i = o
refusal_idle w Done o i = o

-- A turn decreases that number, or ends the call.
refusal_step : {A : Type 0} (me : ℕ) (v w : World A) (t : Thread A) (items : List ℕ) (after : Moved A) → 2 ^ 62 ≤ length items → OnRefusal v w t → Transition me true w t (Extender items) after →
    IsRefused me v after.world ⊎ (OnRefusal v after.world after.thread × (suc (refusal_left after.world after.thread.phase) ≤ refusal_left w t.phase))
refusal_step me v w t items _ many o (stays i) = absurd (refusal_idle w t.phase o.on (subst (λ b. IsExtenderIdle b w t.phase) (ap (λ z. z == 0) o.due) i))
refusal_step me v w t items _ many o (peeks p e f) =
    let l : refusal_left w t.phase ≡ 4 = ap (refusal_left w) p in
    let r : refusal_left w (Peeked w.length) ≡ 3 = ap (λ b. if b then 3 else 5) (eqb_same w.length) in
    inr (record { events_are = o.events_are; answers_are = o.answers_are; due = o.due; on = f }, omega (arith, l, r))
refusal_step me v w t items _ many o (acquires {n = n} p e b) =
    let f = freed w.held w.length n b in
    let l : refusal_left w t.phase ≡ 3 = ap (refusal_left w) p ∙ ap (λ z. if z then 3 else 5) (ap (λ z. w.length == z) f.1 ∙ eqb_same w.length) in
    inr (record { events_are = o.events_are; answers_are = o.answers_are; due = o.due; on = tt }, omega (arith, l))
refusal_step me v w t items _ many o (loses {n = n} p e b) =
    let free : w.held ≡ None = subst (IsOnRefusal w) p o.on in
    let l : refusal_left w t.phase ≡ 5 = ap (refusal_left w) p ∙ ap (λ z. if z then 3 else 5) (lost w.held w.length n free b) in
    inr (record { events_are = o.events_are; answers_are = o.answers_are; due = o.due; on = free }, omega (arith, l))
refusal_step me v w t items _ many o (refuses p e) =
    inl (record { list_is = o.events_are; answers_are = ap (λ l. l ++ Refused me ∷ []) o.answers_are; is_free = refl })
refusal_step me v w t items _ many o (reserves {n = n} p e b) = absurd (true≢false (sym b ∙ no_room w.opened (n + length items) (omega (arith, many))))
refusal_step me v w t items _ many o (lacks {n = n} p e b) =
    let l : refusal_left w t.phase ≡ 2 = ap (refusal_left w) p in
    inr (record { events_are = o.events_are; answers_are = o.answers_are; due = o.due; on = tt }, omega (arith, l))
refusal_step me v w t items _ many o (fills p e i b) = absurd (subst (IsOnRefusal w) p o.on)
refusal_step me v w t items _ many o (fill_opens p e i b) = absurd (subst (IsOnRefusal w) p o.on)
refusal_step me v w t items _ many o (extends p e i) = absurd (subst (IsOnRefusal w) p o.on)

-- Its call has ended within the turns that it needs.
refusal_run : {A : Type 0} (plans : List (Plan A)) (n : ℕ) (m : Machine A) (me : ℕ) (items : List ℕ) (v : World A) (t : Thread A) → 2 ^ 62 ≤ length items → slice_get plans me ≡ Some (Extender items) → slice_get m.threads me ≡ Some t → OnRefusal v m.world t →
    refusal_left m.world t.phase ≤ n → (turns : ℕ) × IsRefused me v (fold (turned plans) m (turns_alone me turns)).world
refusal_run plans zero m me items v t many pe e o n = let h = (refusal_few m.world t.phase).0 in absurd (omega (arith, h, n))
refusal_run plans (suc k) m me items v t many pe e o n =
    let turn : Turn = record { thread = me; memory = true } in
    let a = thread_turn (Extender items) me true m.world t in
    let m1 = turned plans m turn in
    let w : m1.world ≡ a.world = ap (λ z. z.world) (turned_is plans m turn (Extender items) t pe e) in
    elim (refusal_step me v m.world t items a many o (transition (Extender items) me true m.world t)) [
      | inl p ↦ (1, subst (IsRefused me v) (sym w) p)
      | inr p ↦
          let l : suc (refusal_left m1.world a.thread.phase) ≤ refusal_left m.world t.phase = subst (λ z. suc (refusal_left z a.thread.phase) ≤ refusal_left m.world t.phase) (sym w) p.1 in
          let r = refusal_run plans k m1 me items v a.thread many pe (own_turn plans m turn (Extender items) t pe e) (subst (λ z. OnRefusal v z a.thread) (sym w) p.0) (omega (arith, l, n)) in
          (suc r.0, r.1)
    ]

-- An extender that doesn't have the lock, and has not returned, may begin.
refusal_starts : {A : Type 0} (me next : ℕ) (w : World A) (call : List ℕ) (phase : Phase) → w.held ≡ None → HolderOk w me call phase → IsExtending next phase → IsOnRefusal w phase
refusal_starts me next w call Ready f h q = f
refusal_starts me next w call (Peeked n) f h q = f
refusal_starts me next w call (Acquired n) f h q = tt
refusal_starts me next w call (Written n) f h q = q
refusal_starts me next w call (Filling n k) f h q = absurd (let g = h.0 in cc)
refusal_starts me next w call Denied f h q = tt
refusal_starts me next w call (Looked n) f h q = q
refusal_starts me next w call Done f h q = q

-- After every schedule, such an extender that then runs alone has its call fail.
pub refusal_ends : {A : Type 0} (plans : List (Plan A)) (front : List Turn) (me : ℕ) (items : List ℕ) → slice_get plans me ≡ Some (Extender items) → 2 ^ 62 ≤ length items → length (answers_of me (world_of plans front).answers) ≡ 0 → (world_of plans front).held ≡ None →
    (turns : ℕ) × IsRefused me (world_of plans front) (world_of plans (front ++ turns_alone me turns))
refusal_ends plans front me items pe many none free =
    let m = machine_of plans front in
    let s = sound plans front in
    let t = entry_at m.threads me (omega (arith, s.sizes, slice_get_within plans me (Extender items) pe)) in
    let o = s.told me (Extender items) t.0 pe t.1 in
    let start : OnRefusal m.world m.world t.0 = record { events_are = refl; answers_are = refl; due = sym o.count ∙ none; on = refusal_starts me t.0.next m.world items t.0.phase free (s.threads me (Extender items) t.0 pe t.1) o.extending } in
    let r = refusal_run plans 5 m me items m.world t.0 many pe t.1 start (refusal_few m.world t.0.phase).1 in
    let j : machine_of plans (front ++ turns_alone me r.0) ≡ fold (turned plans) m (turns_alone me r.0) = fold-append (turned plans) (opening plans) front (turns_alone me r.0) in
    (r.0, subst (λ n. IsRefused me m.world n.world) (sym j) r.1)
