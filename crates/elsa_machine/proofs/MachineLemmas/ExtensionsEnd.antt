-- If the lock is free, an extender that runs alone, with memory, pushes its items in at most two
-- turns for each item and five more.
use Rattle.std.proofs.Common.{ℕ, zero, suc, ◌+◌, ◌-◌, ◌*◌, ◌^◌, ◌<◌, ◌≤◌, ◌≡◌, ◌⊎◌, Bool, true, false, ◌&&◌, ◌||◌, ◌==◌, nat_le, nat_lt, List, [], ◌∷◌, ◌++◌, length, Some, None, slice_get, refl, arith, inl, inr, ap, sym, ◌∙◌, subst, true≢false}
use Rattle.std.specs.Bool.{if◌then◌else◌}
use Rattle.std.specs.List.{fold}
use Rattle.std.specs.Prelude.{is_none}
use Rattle.std.proofs.lemmas.List.Sums.{fold-append}
use Rattle.std.proofs.lemmas.Option.{slice_get_within}
use Rattle.std.proofs.lemmas.Bool.{lt-ltb}
use Rattle.elsa_machine.specs.declared.machine.Plan.{Plan}
use Rattle.elsa_machine.specs.declared.machine.Plan.TheVariants.{Extender}
use Rattle.elsa_machine.specs.declared.machine.Turn.{Turn}
use Rattle.elsa_machine.specs.declared.machine.Answer.TheVariants.{Extended}
use Rattle.elsa_machine.specs.declared.machine.World.{World}
use Rattle.elsa_machine.specs.declared.machine.turns.Phase.{Phase}
use Rattle.elsa_machine.specs.declared.machine.turns.Phase.TheVariants.{Ready, Peeked, Acquired, Written, Filling, Denied, Looked, Done}
use Rattle.elsa_machine.specs.declared.machine.turns.Thread.{Thread}
use Rattle.elsa_slots.specs.Geometry.{slots_before}
use Rattle.elsa_machine.specs.Machine.{can_reserve, Moved, thread_turn, Machine, turned, opening, machine_of}
use Rattle.elsa_machine.specs.Worlds.{written_by, list_of}
use Rattle.elsa_machine.specs.Turns.{WritesNext}
use Rattle.elsa_machine.specs.Progress.{turns_alone, AreExtended, ExtensionsEnd}
use Rattle.elsa_machine.proofs.MachineLemmas.Rules.{IsExtenderIdle, Transition, transition, stays, peeks, acquires, loses, refuses, reserves, lacks, fills, fill_opens, extends}
use Rattle.elsa_machine.proofs.MachineLemmas.Kept.{list_extend, take_every, HolderOk, WorldOk, freed}
use Rattle.elsa_machine.proofs.MachineLemmas.Growth.{eqb_same, entry_at}
use Rattle.elsa_machine.proofs.MachineLemmas.Extenders.{ExtenderOk, IsExtending}
use Rattle.elsa_machine.proofs.MachineLemmas.Runs.{Sound, sound_turned, sound}
use Rattle.elsa_machine.proofs.MachineLemmas.Moments.{turned_is, own_turn}
use Rattle.elsa_machine.proofs.MachineLemmas.Holds.{fill_left, fill_few, fill_next, fill_open, hold_left, hold_few, hold_some, next_open}
use Rattle.elsa_machine.proofs.MachineLemmas.Solo.{lost}

-- What each phase of an extender that began at world v implies: the lock is free until it acquires
-- the lock.
abbrev pub IsOnCourse : {A : Type 0} → World A → World A → Phase → Type 0
IsOnCourse v w Ready = w.held ≡ None
IsOnCourse v w (Peeked n) = w.held ≡ None
IsOnCourse v w (Acquired n) = n ≡ v.length
IsOnCourse v w (Written n) = ⊥
IsOnCourse v w (Filling n k) = n ≡ v.length
IsOnCourse v w Denied = ⊥
IsOnCourse v w (Looked n) = ⊥
IsOnCourse v w Done = ⊥

-- Nothing was pushed or returned since the world v.
pub record OnCourse {A : Type 0} (v w : World A) (t : Thread A) : Type 0 where
  pub events_are : list_of w.events ≡ list_of v.events
  pub answers_are : w.answers ≡ v.answers
  pub length_is : w.length ≡ v.length
  pub due : t.next ≡ 0
  pub on : IsOnCourse v w t.phase

-- The number of turns that it still needs.
abbrev pub extend_left : {A : Type 0} → List ℕ → World A → Phase → ℕ
extend_left items w Ready = 2 * length items + 4
extend_left items w (Peeked n) = if w.length == n then 2 * length items + 3 else 2 * length items + 5
extend_left items w (Acquired n) = 2 * length items + 2
extend_left items w (Written n) = 1
extend_left {A} items w (Filling n k) = hold_left {A = A} (Extender items) w (Filling n k)
extend_left items w Denied = 1
extend_left items w (Looked n) = 1
extend_left items w Done = 1

-- A choice of two numbers of turns.
three_or_five : (c : ℕ) (b : Bool) → (0 < (if b then 2 * c + 3 else 2 * c + 5)) × ((if b then 2 * c + 3 else 2 * c + 5) ≤ 2 * c + 5)
three_or_five c true = (omega arith, omega arith)
three_or_five c false = (omega arith, omega arith)

extend_few : {A : Type 0} (items : List ℕ) (w : World A) (phase : Phase) → (0 < extend_left items w phase) × (extend_left items w phase ≤ 2 * length items + 5)
extend_few items w Ready = (omega arith, omega arith)
extend_few items w (Peeked n) = three_or_five (length items) (w.length == n)
extend_few items w (Acquired n) = (omega arith, omega arith)
extend_few items w (Written n) = (omega arith, omega arith)
extend_few items w (Filling n k) = let h = hold_some (Extender items) w (Filling n k) tt in let l = hold_few (Extender items) w (Filling n k) in (h, omega (arith, l))
extend_few items w Denied = (omega arith, omega arith)
extend_few items w (Looked n) = (omega arith, omega arith)
extend_few items w Done = (omega arith, omega arith)

-- With memory, an extender whose items have indices reserves its buffers.
can_now : (opened end : ℕ) → end < 2 ^ 62 → can_reserve true opened end ≡ true
can_now opened end small = ap (λ b. b && (true || nat_le end (slots_before opened))) (lt-ltb end (2 ^ 62) small)

course_idle : {A : Type 0} (v w : World A) (phase : Phase) → IsOnCourse v w phase → IsExtenderIdle true w phase → ⊥
course_idle v w Ready o i = true≢false (sym (ap is_none o) ∙ i)
course_idle v w (Peeked n) o i = i
course_idle v w (Acquired n) o i = i
course_idle v w (Written n) o i = o
course_idle v w (Filling n k) o i = i
course_idle v w Denied o i = i
course_idle v w (Looked n) o i = o
course_idle v w Done o i = o

-- It always has something to do.
course_busy : {A : Type 0} (me : ℕ) (v w : World A) (t : Thread A) (items : List ℕ) → ExtenderOk items me w t.next t.phase → OnCourse v w t → IsExtenderIdle (t.next == 0) w t.phase → ⊥
course_busy me v w t items q o i = course_idle v w t.phase o.on (subst (λ b. IsExtenderIdle b w t.phase) (ap (λ z. z == 0) o.due) i)

-- A turn decreases that number, or pushes its items.
course_step : {A : Type 0} (me : ℕ) (v w : World A) (t : Thread A) (items : List ℕ) (after : Moved A) → v.length + length items < 2 ^ 62 → WorldOk w → HolderOk w me items t.phase → ExtenderOk items me w t.next t.phase → OnCourse v w t → Transition me true w t (Extender items) after →
    AreExtended me items v after.world ⊎ (OnCourse v after.world after.thread × (suc (extend_left items after.world after.thread.phase) ≤ extend_left items w t.phase))
course_step me v w t items _ small ok h q o (stays i) = absurd (course_busy me v w t items q o i)
course_step me v w t items _ small ok h q o (peeks p e f) =
    let l : extend_left items w t.phase ≡ 2 * length items + 4 = ap (extend_left items w) p in
    let r : extend_left items w (Peeked w.length) ≡ 2 * length items + 3 = ap (λ b. if b then 2 * length items + 3 else 2 * length items + 5) (eqb_same w.length) in
    inr (record { events_are = o.events_are; answers_are = o.answers_are; length_is = o.length_is; due = o.due; on = f }, omega (arith, l, r))
course_step me v w t items _ small ok h q o (acquires {n = n} p e b) =
    let f = freed w.held w.length n b in
    let l : extend_left items w t.phase ≡ 2 * length items + 3 = ap (extend_left items w) p ∙ ap (λ z. if z then 2 * length items + 3 else 2 * length items + 5) (ap (λ z. w.length == z) f.1 ∙ eqb_same w.length) in
    inr (record { events_are = o.events_are; answers_are = o.answers_are; length_is = o.length_is; due = o.due; on = f.1 ∙ o.length_is }, omega (arith, l))
course_step me v w t items _ small ok h q o (loses {n = n} p e b) =
    let free : w.held ≡ None = subst (IsOnCourse v w) p o.on in
    let l : extend_left items w t.phase ≡ 2 * length items + 5 = ap (extend_left items w) p ∙ ap (λ z. if z then 2 * length items + 3 else 2 * length items + 5) (lost w.held w.length n free b) in
    inr (record { events_are = o.events_are; answers_are = o.answers_are; length_is = o.length_is; due = o.due; on = free }, omega (arith, l))
course_step me v w t items _ small ok h q o (refuses p e) = absurd (subst (IsOnCourse v w) p o.on)
course_step me v w t items _ small ok h q o (reserves {n = n} p e b) =
    let at : n ≡ v.length = subst (IsOnCourse v w) p o.on in
    let l : extend_left items w t.phase ≡ 2 * length items + 2 = ap (extend_left items w) p in
    let f = fill_few (length items - 0) (nat_lt (n + 0) (slots_before w.opened)) in
    inr (record { events_are = o.events_are; answers_are = o.answers_are; length_is = o.length_is; due = o.due; on = at }, omega (arith, l, f.1))
course_step me v w t items _ small ok h q o (lacks {n = n} p e b) =
    let at : n ≡ v.length = subst (IsOnCourse v w) p o.on in
    let can = can_now w.opened (n + length items) (omega (arith, at, small)) in
    absurd (true≢false (sym can ∙ b))
course_step me v w t items _ small ok h q o (fills {n = n} {k} {x} p e i b) =
    let at : n ≡ v.length = subst (IsOnCourse v w) p o.on in
    let less = slice_get_within items k x i in
    let l : extend_left items w t.phase ≡ fill_left (length items - k) true = ap (extend_left items w) p ∙ ap (fill_left (length items - k)) b in
    let f = fill_next (length items) k (nat_lt (n + (k + 1)) (slots_before w.opened)) less in
    inr (record { events_are = o.events_are; answers_are = o.answers_are; length_is = o.length_is; due = o.due; on = at }, omega (arith, l, f))
course_step me v w t items _ small ok h q o (fill_opens {n = n} {k} {x} p e i b) =
    let at : n ≡ v.length = subst (IsOnCourse v w) p o.on in
    let less = slice_get_within items k x i in
    let u : World _ = record w { opened = w.opened + 1 } in
    let next : WritesNext t.phase (n + k) = subst (λ z. WritesNext z (n + k)) (sym p) refl in
    let l : extend_left items w t.phase ≡ fill_left (length items - k) false = ap (extend_left items w) p ∙ ap (fill_left (length items - k)) b in
    let r : extend_left items u t.phase ≡ fill_left (length items - k) true = ap (extend_left items u) p ∙ ap (fill_left (length items - k)) (next_open w me (n + k) items t.phase next ok h b) in
    let f = fill_open (length items) k less in
    inr (record { events_are = o.events_are; answers_are = o.answers_are; length_is = o.length_is; due = o.due; on = subst (IsOnCourse v u) (sym p) at }, omega (arith, l, r, f))
course_step me v w t items _ small ok h q o (extends {n = n} {k} p e i) =
    let at : n ≡ v.length = subst (IsOnCourse v w) p o.on in
    let j = subst (HolderOk w me items) p h in
    let every = take_every k items i j.3 in
    inl (record {
      list_is = list_extend w.events me items ∙ ap (λ l. l ++ written_by me items) o.events_are;
      answers_are = ap (λ l. l ++ Extended me n k ∷ []) o.answers_are ∙ ap (λ z. v.answers ++ Extended me z k ∷ []) at ∙ ap (λ z. v.answers ++ Extended me v.length z ∷ []) every.1;
      is_free = refl;
    })

-- It has pushed its items within the turns that it needs.
course_run : {A : Type 0} (plans : List (Plan A)) (n : ℕ) (m : Machine A) (me : ℕ) (items : List ℕ) (v : World A) (t : Thread A) → v.length + length items < 2 ^ 62 → Sound plans m → slice_get plans me ≡ Some (Extender items) → slice_get m.threads me ≡ Some t → OnCourse v m.world t →
    extend_left items m.world t.phase ≤ n → (turns : ℕ) × (turns ≤ n) × AreExtended me items v (fold (turned plans) m (turns_alone me turns)).world
course_run plans zero m me items v t small s pe e o n = let h = (extend_few items m.world t.phase).0 in absurd (omega (arith, h, n))
course_run plans (suc k) m me items v t small s pe e o n =
    let turn : Turn = record { thread = me; memory = true } in
    let a = thread_turn (Extender items) me true m.world t in
    let m1 = turned plans m turn in
    let w : m1.world ≡ a.world = ap (λ z. z.world) (turned_is plans m turn (Extender items) t pe e) in
    elim (course_step me v m.world t items a small s.world (s.threads me (Extender items) t pe e) (s.told me (Extender items) t pe e) o (transition (Extender items) me true m.world t)) [
      | inl p ↦ (1, omega arith, subst (AreExtended me items v) (sym w) p)
      | inr p ↦
          let l : suc (extend_left items m1.world a.thread.phase) ≤ extend_left items m.world t.phase = subst (λ z. suc (extend_left items z a.thread.phase) ≤ extend_left items m.world t.phase) (sym w) p.1 in
          let r = course_run plans k m1 me items v a.thread small (sound_turned plans m turn s) pe (own_turn plans m turn (Extender items) t pe e) (subst (λ z. OnCourse v z a.thread) (sym w) p.0) (omega (arith, l, n)) in
          (suc r.0, omega (arith, r.1), r.2)
    ]

-- An extender that doesn't have the lock, and has not returned, may begin.
course_starts : {A : Type 0} (me next : ℕ) (w : World A) (call : List ℕ) (phase : Phase) → w.held ≡ None → HolderOk w me call phase → IsExtending next phase → IsOnCourse w w phase
course_starts me next w call Ready f h q = f
course_starts me next w call (Peeked n) f h q = f
course_starts me next w call (Acquired n) f h q = h.2
course_starts me next w call (Written n) f h q = q
course_starts me next w call (Filling n k) f h q = h.2
course_starts me next w call Denied f h q = absurd (let g = h.0 in cc)
course_starts me next w call (Looked n) f h q = q
course_starts me next w call Done f h q = q

-- After every schedule, an extender that then runs alone pushes its items.
pub extensions_end : {A : Type 0} (plans : List (Plan A)) (front : List Turn) → ExtensionsEnd plans front
extensions_end plans front = λ me items pe none free small.
    let m = machine_of plans front in
    let s = sound plans front in
    let t = entry_at m.threads me (omega (arith, s.sizes, slice_get_within plans me (Extender items) pe)) in
    let o = s.told me (Extender items) t.0 pe t.1 in
    let start : OnCourse m.world m.world t.0 = record { events_are = refl; answers_are = refl; length_is = refl; due = sym o.count ∙ none; on = course_starts me t.0.next m.world items t.0.phase free (s.threads me (Extender items) t.0 pe t.1) o.extending } in
    let few = (extend_few items m.world t.0.phase).1 in
    let r = course_run plans (2 * length items + 5) m me items m.world t.0 small s pe t.1 start few in
    let j : machine_of plans (front ++ turns_alone me r.0) ≡ fold (turned plans) m (turns_alone me r.0) = fold-append (turned plans) (opening plans) front (turns_alone me r.0) in
    (r.0, r.1, subst (λ n. AreExtended me items m.world n.world) (sym j) r.2)
