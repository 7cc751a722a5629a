-- The turns of one thread that ends its call: quiet ones, the one that acquires the lock, quiet ones, and the last.
use Rattle.std.proofs.Common.{ℕ, zero, suc, ◌≡◌, ◌∙◌, ◌<◌, ◌==◌, ◌⊎◌, inl, inr, Bool, true, false, List, [], ◌∷◌, ◌++◌, length, refl, ap, sym, subst, arith, append_assoc, Some, None, slice_get, true≢false}
use Rattle.std.proofs.lemmas.Bool.Decides.{nat_tests}
use Rattle.std.proofs.lemmas.List.{append-nil}
use Rattle.std.proofs.lemmas.List.Sums.{fold-append}
use Rattle.std.proofs.lemmas.Option.{slice_get_within}
use Rattle.std.specs.Bool.{if◌then◌else◌}
use Rattle.std.specs.List.{fold}
use Rattle.std.specs.Prelude.{is_some}
use Rattle.elsa_lock_free.specs.AtomicSteps.{Acquires}
use Rattle.elsa_machine.specs.declared.machine.Answer.{Answer}
use Rattle.elsa_machine.specs.declared.machine.Plan.{Plan}
use Rattle.elsa_machine.specs.declared.machine.Plan.TheVariants.{Pusher, Extender}
use Rattle.elsa_machine.specs.declared.machine.Turn.{Turn}
use Rattle.elsa_machine.specs.declared.machine.World.{World}
use Rattle.elsa_machine.specs.declared.machine.turns.Phase.TheVariants.{Acquired as AcquiredAt}
use Rattle.elsa_machine.specs.declared.machine.turns.Thread.{Thread}
use Rattle.elsa_machine.specs.Machine.{Machine, Moved, extender_turn, machine_of, moved, opening, pusher_turn, thread_turn, turned, world_of}
use Rattle.elsa_machine.specs.Progress.{turns_alone}
use Rattle.elsa_machine.specs.Turns.{shared_of}
use Rattle.elsa_machine.specs.Worlds.{list_of}
use Rattle.elsa_machine.proofs.MachineLemmas.Rules.{Transition, transition, stays, peeks, acquires, loses, writes, opens, denies, publishes, refuses, reserves, lacks, fills, fill_opens, extends}
use Rattle.elsa_machine.proofs.MachineLemmas.Kept.{HolderOk, next_items, freed}
use Rattle.elsa_machine.proofs.MachineLemmas.Growth.{entry_at}
use Rattle.elsa_machine.proofs.MachineLemmas.Moments.{turned_is, own_turn}
use Rattle.elsa_machine.proofs.MachineLemmas.Promises.{one_list}
use Rattle.elsa_machine.proofs.MachineLemmas.Runs.{sound}
use Rattle.elsa_machine.specs.Tie.{AreQuiet}

-- A turn changes nothing that is shared and gives no result; or it acquires the lock; or its thread has the lock, and the
-- call of the thread, which the thread has then made, ends.
abbrev pub Kind : {A : Type 0} → World A → World A → Thread A → Type 0
Kind v w u = ((shared_of w ≡ shared_of v) × (w.answers ≡ v.answers)) ⊎ ((Acquires v.length (shared_of v) (shared_of w) × (w.answers ≡ v.answers)) ⊎ ((is_some v.held ≡ true) × (0 < u.next)))

kind_acquires : {A : Type 0} (me n : ℕ) (w : World A) (t : Thread A) → w.held ≡ None → Kind w (record w { held = Some me }) (record t { phase = AcquiredAt n })
kind_acquires me n w t free = inr (inl (record { was_free = ap is_some free; was_at = refl; length_is = refl; held_is = refl; list_is = refl }, refl))

pusher_kind : {A : Type 0} (me : ℕ) (memory : Bool) (call items : List ℕ) (w : World A) (t : Thread A) (after : Moved A) → HolderOk w me call t.phase → Transition me memory w t (Pusher items) after → Kind w after.world after.thread
pusher_kind me memory call items w t _ h (stays i) = inl (refl, refl)
pusher_kind me memory call items w t _ h (peeks p e f) = inl (refl, refl)
pusher_kind me memory call items w t _ h (acquires {n = n} p e b) = kind_acquires me n w t (freed w.held w.length n b).0
pusher_kind me memory call items w t _ h (loses p e b) = inl (refl, refl)
pusher_kind me memory call items w t _ h (writes p e b) = inl (refl, refl)
pusher_kind me memory call items w t _ h (opens p e b c) = inl (refl, refl)
pusher_kind me memory call items w t _ h (denies p e b c) = inl (refl, refl)
pusher_kind me memory call items w t _ h (publishes p e) = inr (inr (ap is_some (subst (HolderOk w me call) p h).0, omega arith))
pusher_kind me memory call items w t _ h (refuses p e) = inr (inr (ap is_some (subst (HolderOk w me call) p h).0, omega arith))

extender_kind : {A : Type 0} (me : ℕ) (memory : Bool) (call items : List ℕ) (w : World A) (t : Thread A) (after : Moved A) → HolderOk w me call t.phase → Transition me memory w t (Extender items) after → Kind w after.world after.thread
extender_kind me memory call items w t _ h (stays i) = inl (refl, refl)
extender_kind me memory call items w t _ h (peeks p e f) = inl (refl, refl)
extender_kind me memory call items w t _ h (acquires {n = n} p e b) = kind_acquires me n w t (freed w.held w.length n b).0
extender_kind me memory call items w t _ h (loses p e b) = inl (refl, refl)
extender_kind me memory call items w t _ h (refuses p e) = inr (inr (ap is_some (subst (HolderOk w me call) p h).0, omega arith))
extender_kind me memory call items w t _ h (reserves p e b) = inl (refl, refl)
extender_kind me memory call items w t _ h (lacks p e b) = inl (refl, refl)
extender_kind me memory call items w t _ h (fills p e i b) = inl (refl, refl)
extender_kind me memory call items w t _ h (fill_opens p e i b) = inl (refl, refl)
extender_kind me memory call items w t _ h (extends p e i) = inr (inr (ap is_some (subst (HolderOk w me call) p h).0, omega arith))

none_after : (x n : ℕ) → 0 < n → slice_get (x ∷ []) n ≡ None
none_after x zero some = absurd (omega (arith, some))
none_after x (suc zero) some = refl
none_after x (suc (suc n)) some = refl

pusher_done : {A : Type 0} (me x : ℕ) (w : World A) (t : Thread A) → 0 < t.next → thread_turn (Pusher (x ∷ [])) me true w t ≡ moved w t
pusher_done me x w t some = ap (λ o. pusher_turn me true o w t t.phase) (none_after x t.next some)

not_0 : (n : ℕ) → 0 < n → (n == 0) ≡ false
not_0 n some = grind (arith, nat_tests)

extender_done : {A : Type 0} (me : ℕ) (xs : List ℕ) (w : World A) (t : Thread A) → 0 < t.next → thread_turn (Extender xs) me true w t ≡ moved w t
extender_done me xs w t some = ap (λ b. extender_turn me true (if b then Some xs else None) w t t.phase) (not_0 t.next some)

module _ {A : Type 0} (plans : List (Plan A)) where
  -- the turn of this thread that comes next, with memory
  abbrev pub next_turn : ℕ → Turn
  next_turn me = record { thread = me; memory = true }

  -- a turn of this thread, after these turns
  record Turned (me : ℕ) (front : List Turn) : Type 0 where
    thread : Thread A
    is_next : slice_get (machine_of plans (front ++ next_turn me ∷ [])).threads me ≡ Some thread
    kind : Kind (world_of plans front) (world_of plans (front ++ next_turn me ∷ [])) thread

  -- A thread that makes one call: what its turns are, and that it does nothing after its call.
  pub record Caller (me : ℕ) : Type 0 where
    plan : Plan A
    planned : slice_get plans me ≡ Some plan
    kinds : (w : World A) (t : Thread A) → HolderOk w me (next_items plan t.next) t.phase → Kind w (thread_turn plan me true w t).world (thread_turn plan me true w t).thread
    done : (w : World A) (t : Thread A) → 0 < t.next → thread_turn plan me true w t ≡ moved w t

  pub pusher : (me x : ℕ) → slice_get plans me ≡ Some (Pusher (x ∷ [])) → Caller me
  pusher me x pe = record {
    plan = Pusher (x ∷ []);
    planned = pe;
    kinds = λ w t h. pusher_kind me true (next_items {A = A} (Pusher (x ∷ [])) t.next) (x ∷ []) w t (thread_turn (Pusher (x ∷ [])) me true w t) h (transition (Pusher (x ∷ [])) me true w t);
    done = λ w t some. pusher_done me x w t some;
  }

  pub extender : (me : ℕ) (xs : List ℕ) → slice_get plans me ≡ Some (Extender xs) → Caller me
  extender me xs pe = record {
    plan = Extender xs;
    planned = pe;
    kinds = λ w t h. extender_kind me true (next_items {A = A} (Extender xs) t.next) xs w t (thread_turn (Extender xs) me true w t) h (transition (Extender xs) me true w t);
    done = λ w t some. extender_done me xs w t some;
  }

  turn_of : (me : ℕ) → Caller me → (front : List Turn) → Turned me front
  turn_of me c front =
      let m = machine_of plans front in
      let s = sound plans front in
      let turn = next_turn me in
      let t = entry_at m.threads me (let z = s.sizes in omega (arith, z, slice_get_within plans me c.plan c.planned)) in
      let a = thread_turn c.plan me true m.world t.0 in
      let j : machine_of plans (front ++ turn ∷ []) ≡ turned plans m turn = fold-append (turned plans) (opening plans) front (turn ∷ []) in
      let w : (turned plans m turn).world ≡ a.world = ap (λ z. z.world) (turned_is plans m turn c.plan t.0 c.planned t.1) in
      record {
        thread = a.thread;
        is_next = subst (λ (n : Machine A). slice_get n.threads me ≡ Some a.thread) (sym j) (own_turn plans m turn c.plan t.0 c.planned t.1);
        kind = subst (λ (n : Machine A). Kind m.world n.world a.thread) (sym j) (subst (λ (n : World A). Kind m.world n a.thread) (sym w) (c.kinds m.world t.0 (s.threads me c.plan t.0 c.planned t.1)));
      }

  -- after its call, its turns leave the world
  idle : (me : ℕ) → Caller me → (n : ℕ) (m : Machine A) (t : Thread A) → slice_get m.threads me ≡ Some t → 0 < t.next → (fold (turned plans) m (turns_alone me n)).world ≡ m.world
  idle me c zero m t at some = refl
  idle me c (suc n) m t at some =
      let turn = next_turn me in
      let same = c.done m.world t some in
      let w : (turned plans m turn).world ≡ m.world = ap (λ z. z.world) (turned_is plans m turn c.plan t c.planned at) ∙ ap (λ z. z.world) same in
      let u : slice_get (turned plans m turn).threads me ≡ Some t = own_turn plans m turn c.plan t c.planned at ∙ ap (λ z. Some z.thread) same in
      idle me c n (turned plans m turn) t u some ∙ w

  -- the length of a world is that of its list
  pub at_length : (front : List Turn) (list : List (ℕ × ℕ)) → list_of (world_of plans front).events ≡ list → (world_of plans front).length ≡ length list
  at_length front list is = (one_list plans front).history.counted ∙ ap length is

  -- after quiet turns all that is shared is as before
  pub shared_after : (lead front : List Turn) → AreQuiet plans front lead → shared_of (world_of plans (front ++ lead)) ≡ shared_of (world_of plans front)
  shared_after [] front q = ap (λ (z : List Turn). shared_of (world_of plans z)) (append-nil front)
  shared_after (turn ∷ lead) front q = ap (λ (z : List Turn). shared_of (world_of plans z)) (sym (append_assoc front (turn ∷ []) lead)) ∙ shared_after lead (front ++ turn ∷ []) q.1 ∙ q.0

  -- Within n turns of this thread it acquires the lock; these turns remain.
  pub record Acquiring (me n : ℕ) (front : List Turn) (told : List (Answer A)) : Type 0 where
    pub lead : List Turn
    pub left : ℕ
    pub quiet : AreQuiet plans front lead
    pub step : Acquires (world_of plans (front ++ lead)).length (shared_of (world_of plans (front ++ lead))) (shared_of (world_of plans ((front ++ lead) ++ next_turn me ∷ [])))
    pub told_is : (world_of plans ((front ++ lead) ++ next_turn me ∷ [])).answers ≡ told
    pub same_end : world_of plans (((front ++ lead) ++ next_turn me ∷ []) ++ turns_alone me left) ≡ world_of plans (front ++ turns_alone me n)

  pub to_acquire : (me : ℕ) → Caller me → (n : ℕ) (front : List Turn) (told : List (Answer A)) → is_some (world_of plans front).held ≡ false → (world_of plans front).answers ≡ told → ((world_of plans (front ++ turns_alone me n)).answers ≡ told → ⊥) → Acquiring me n front told
  to_acquire me c zero front told free told_is other = absurd (other (ap (λ (z : List Turn). (world_of plans z).answers) (append-nil front) ∙ told_is))
  to_acquire me c (suc n) front told free told_is other =
      let turn = next_turn me in
      let more = turns_alone me n in
      let a : (front ++ turn ∷ []) ++ more ≡ front ++ turn ∷ more = append_assoc front (turn ∷ []) more in
      elim (turn_of me c front).kind [
        | inl q ↦
            let r = to_acquire me c n (front ++ turn ∷ []) told (ap (λ s. s.held) q.0 ∙ free) (q.1 ∙ told_is) (λ e. other (ap (λ (z : List Turn). (world_of plans z).answers) (sym a) ∙ e)) in
            let b : (front ++ turn ∷ []) ++ r.lead ≡ front ++ turn ∷ r.lead = append_assoc front (turn ∷ []) r.lead in
            record {
              lead = turn ∷ r.lead;
              left = r.left;
              quiet = (q.0, r.quiet);
              step = subst (λ (z : List Turn). Acquires (world_of plans z).length (shared_of (world_of plans z)) (shared_of (world_of plans (z ++ turn ∷ [])))) b r.step;
              told_is = subst (λ (z : List Turn). (world_of plans (z ++ turn ∷ [])).answers ≡ told) b r.told_is;
              same_end = subst (λ (z : List Turn). world_of plans ((z ++ turn ∷ []) ++ turns_alone me r.left) ≡ world_of plans (front ++ turn ∷ more)) b (r.same_end ∙ ap (λ (z : List Turn). world_of plans z) a);
            }
        | inr k ↦ elim k [
          | inl t ↦
              let b : front ≡ front ++ [] = sym (append-nil front) in
              record {
                lead = [];
                left = n;
                quiet = tt;
                step = subst (λ (z : List Turn). Acquires (world_of plans z).length (shared_of (world_of plans z)) (shared_of (world_of plans (z ++ turn ∷ [])))) b t.0;
                told_is = subst (λ (z : List Turn). (world_of plans (z ++ turn ∷ [])).answers ≡ told) b (t.1 ∙ told_is);
                same_end = subst (λ (z : List Turn). world_of plans ((z ++ turn ∷ []) ++ more) ≡ world_of plans (front ++ turn ∷ more)) b (ap (λ (z : List Turn). world_of plans z) a);
              }
          | inr e ↦ absurd (true≢false (sym e.0 ∙ free))
        ]
      ]

  -- Within n turns of this thread, which has the lock, its call ends with a turn that comes after quiet ones.
  pub record Ending (me n : ℕ) (front : List Turn) : Type 0 where
    pub lead : List Turn
    pub quiet : AreQuiet plans front lead
    pub same_end : world_of plans ((front ++ lead) ++ next_turn me ∷ []) ≡ world_of plans (front ++ turns_alone me n)

  pub to_end : (me : ℕ) → Caller me → (n : ℕ) (front : List Turn) (told : List (Answer A)) → is_some (world_of plans front).held ≡ true → (world_of plans front).answers ≡ told → ((world_of plans (front ++ turns_alone me n)).answers ≡ told → ⊥) → Ending me n front
  to_end me c zero front told held told_is other = absurd (other (ap (λ (z : List Turn). (world_of plans z).answers) (append-nil front) ∙ told_is))
  to_end me c (suc n) front told held told_is other =
      let turn = next_turn me in
      let more = turns_alone me n in
      let here = turn_of me c front in
      let a : (front ++ turn ∷ []) ++ more ≡ front ++ turn ∷ more = append_assoc front (turn ∷ []) more in
      elim here.kind [
        | inl q ↦
            let r = to_end me c n (front ++ turn ∷ []) told (ap (λ s. s.held) q.0 ∙ held) (q.1 ∙ told_is) (λ e. other (ap (λ (z : List Turn). (world_of plans z).answers) (sym a) ∙ e)) in
            let b : (front ++ turn ∷ []) ++ r.lead ≡ front ++ turn ∷ r.lead = append_assoc front (turn ∷ []) r.lead in
            record {
              lead = turn ∷ r.lead;
              quiet = (q.0, r.quiet);
              same_end = subst (λ (z : List Turn). world_of plans (z ++ turn ∷ []) ≡ world_of plans (front ++ turn ∷ more)) b (r.same_end ∙ ap (λ (z : List Turn). world_of plans z) a);
            }
        | inr k ↦ elim k [
          | inl t ↦ absurd (true≢false (sym held ∙ t.0.was_free))
          | inr e ↦
              let m = machine_of plans (front ++ turn ∷ []) in
              let j : machine_of plans ((front ++ turn ∷ []) ++ more) ≡ fold (turned plans) m more = fold-append (turned plans) (opening plans) (front ++ turn ∷ []) more in
              let i : (fold (turned plans) m more).world ≡ m.world = idle me c n m here.thread here.is_next e.1 in
              let w : world_of plans (front ++ turn ∷ more) ≡ m.world = ap (λ (z : List Turn). world_of plans z) (sym a) ∙ ap (λ (z : Machine A). z.world) j ∙ i in
              record {
                lead = [];
                quiet = tt;
                same_end = subst (λ (z : List Turn). world_of plans (z ++ turn ∷ []) ≡ world_of plans (front ++ turn ∷ more)) (sym (append-nil front)) (sym w);
              }
        ]
      ]
