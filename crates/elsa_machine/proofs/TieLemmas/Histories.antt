-- Each history that the code's rule allows is a history of the machine.
use Rattle.std.proofs.Common.{ℕ, zero, suc, ◌≡◌, ◌∙◌, ◌+◌, ◌^◌, ◌<◌, ◌≤◌, ◌==◌, not, Bool, true, false, List, [], ◌∷◌, ◌++◌, append_assoc, length, map, refl, ap, sym, subst, arith, Some, None, slice_get, inl, inr, true≢false}
use Rattle.std.proofs.lemmas.List.{append-nil, length-append, length-map, length-replicate, map-append}
use Rattle.std.proofs.lemmas.Bool.Decides.{nat_tests}
use Rattle.std.specs.Prelude.{is_some}
use Rattle.elsa_lock_free.specs.declared.event.Entry.{Entry}
use Rattle.elsa_lock_free.specs.declared.event.Event.{Event}
use Rattle.elsa_lock_free.specs.declared.event.Event.TheVariants.{Acquired, Published, Extended, Cloned, Released, OfferOf}
use Rattle.elsa_lock_free.specs.History as history
use Rattle.elsa_lock_free.specs.History.{begins_hold, held_from}
use Rattle.elsa_lock_free.specs.OneWord.{IsMade, begins, steps}
use Rattle.elsa_lock_free.specs.Rights.{IsStep}
use Rattle.elsa_lock_free.specs.SharedList.{items_of, written_by as entries_by}
use Rattle.elsa_machine.specs.declared.machine.Answer.{Answer}
use Rattle.elsa_machine.specs.declared.machine.Answer.TheVariants.{Pushed, Extended as ExtendedAt, Refused}
use Rattle.elsa_machine.specs.declared.machine.Plan.{Plan}
use Rattle.elsa_machine.specs.declared.machine.Plan.TheVariants.{Pusher, Extender}
use Rattle.elsa_machine.specs.declared.machine.Turn.{Turn}
use Rattle.elsa_machine.specs.declared.machine.World.{World}
use Rattle.elsa_machine.specs.Machine.{world_of}
use Rattle.elsa_machine.specs.Turns.{shared_of}
use Rattle.elsa_lock_free.specs.AtomicSteps.{Acquires, Extends, Releases, Shared}
use Rattle.elsa_machine.specs.Progress.{turns_alone}
use Rattle.elsa_machine.specs.Worlds.{written_by, answers_of, answer_thread, list_of}
use Rattle.elsa_machine.proofs.MachineLemmas.ExtensionsEnd.{extensions_end}
use Rattle.elsa_machine.proofs.MachineLemmas.Solo.{pushes_end}
use Rattle.elsa_machine.proofs.TieLemmas.Holding.{Caller, pusher, extender, next_turn, at_length, shared_after, to_acquire, to_end}
use Rattle.elsa_machine.proofs.TieLemmas.Refused.{refusal_ends}
use Rattle.elsa_machine.specs.Tie.{zeros, too_many, Agrees, AreQuiet, items, plan_of, AtomicStep, Does, Follows, IsOfMachine, number_of, IsReached}

-- a number is not a smaller one
apart : (i j : ℕ) → i < j → (i == j) ≡ false
apart i j low = grind (arith, nat_tests)

written_by_length : (k : ℕ) (xs : List ℕ) → length (written_by k xs) ≡ length xs
written_by_length k [] = refl
written_by_length k (x ∷ xs) = ap suc (written_by_length k xs)

-- another thread's result is none of this thread's
other_case : {A : Type 0} (thread : ℕ) (b : Answer A) (bs : List (Answer A)) (a : Answer A) → (answers_of thread bs ≡ [] → answers_of thread (bs ++ a ∷ []) ≡ []) → (same : Bool) → (answer_thread b == thread) ≡ same → answers_of thread (b ∷ bs) ≡ [] → answers_of thread (b ∷ bs ++ a ∷ []) ≡ []
other_case thread b bs a rest true is none = let e : answers_of thread (b ∷ bs) ≡ b ∷ answers_of thread bs = rw is refl in absurd (cc (sym e ∙ none))
other_case thread b bs a rest false is none = let e : answers_of thread (b ∷ bs) ≡ answers_of thread bs = rw is refl in rw is (rest (sym e ∙ none))

answers_other : {A : Type 0} (thread : ℕ) (answers : List (Answer A)) (a : Answer A) → (answer_thread a == thread) ≡ false → answers_of thread answers ≡ [] → answers_of thread (answers ++ a ∷ []) ≡ []
answers_other thread [] a ne none = rw ne refl
answers_other thread (b ∷ bs) a ne none = other_case thread b bs a (answers_other thread bs a ne) (answer_thread b == thread) refl none

-- a list to which something was appended is another list
one_more : {X : Type 0} (front after : List X) (x : X) → after ≡ front ++ x ∷ [] → after ≡ front → ⊥
one_more front after x more same = let a = ap length more in let b = length-append front (x ∷ []) in let c = ap length same in absurd (omega (arith, a, b, c))

-- there are more of them than a list can have
zeros_length : (n : ℕ) → length (zeros n) ≡ n
unfolding zeros
zeros_length n = length-replicate {A = ℕ} n 0

many : 2 ^ 62 ≤ length too_many
many = let l = zeros_length (2 ^ 62) in omega (arith, l)

module _ {A : Type 0} (plans : List (Plan A)) where
  -- The lock is free, the list is this one, and the threads from k on have no result.
  record IsFree (front : List Turn) (k : ℕ) (list : List (ℕ × ℕ)) : Type 0 where
    list_is : list_of (world_of plans front).events ≡ list
    is_free : (world_of plans front).held ≡ None
    fresh : (thread : ℕ) → k ≤ thread → answers_of thread (world_of plans front).answers ≡ []

  as_free : (front : List Turn) (k : ℕ) (list : List (ℕ × ℕ)) → IsFree front k list → Agrees plans front list false
  as_free front k list at = record { list_is = at.list_is; length_is = at_length plans front list at.list_is; held_is = ap is_some at.is_free }

  -- what is shared at two moments is the same
  moved_to : (front after : List Turn) (list : List (ℕ × ℕ)) (held : Bool) → shared_of (world_of plans after) ≡ shared_of (world_of plans front) → Agrees plans front list held → Agrees plans after list held
  moved_to front after list held same at = record { list_is = ap (λ s. s.list) same ∙ at.list_is; length_is = ap (λ s. s.length) same ∙ at.length_is; held_is = ap (λ s. s.held) same ∙ at.held_is }

  -- A block of the thread k: it acquires the lock, and then adds this to the list and releases the lock.
  record Block (front : List Turn) (k : ℕ) (list new : List (ℕ × ℕ)) : Type 0 where
    before : List Turn
    quiet_before : AreQuiet plans front before
    acquires : Acquires (world_of plans (front ++ before)).length (shared_of (world_of plans (front ++ before))) (shared_of (world_of plans ((front ++ before) ++ next_turn plans k ∷ [])))
    acquired : Agrees plans ((front ++ before) ++ next_turn plans k ∷ []) list true
    within : List Turn
    quiet_within : AreQuiet plans ((front ++ before) ++ next_turn plans k ∷ []) within
    held : Agrees plans (((front ++ before) ++ next_turn plans k ∷ []) ++ within) list true
    ended : IsFree ((((front ++ before) ++ next_turn plans k ∷ []) ++ within) ++ next_turn plans k ∷ []) (suc k) (list ++ new)

  block : (front : List Turn) (k n : ℕ) (list new : List (ℕ × ℕ)) (a : Answer A) → IsFree front k list → Caller plans k → answer_thread a ≡ k
      → list_of (world_of plans (front ++ turns_alone k n)).events ≡ list_of (world_of plans front).events ++ new
      → (world_of plans (front ++ turns_alone k n)).answers ≡ (world_of plans front).answers ++ a ∷ [] → (world_of plans (front ++ turns_alone k n)).held ≡ None → Block front k list new
  block front k n list new a at caller whose events answers free =
      let told = (world_of plans front).answers in
      let other : (world_of plans (front ++ turns_alone k n)).answers ≡ told → ⊥ = one_more told (world_of plans (front ++ turns_alone k n)).answers a answers in
      let r = to_acquire plans k caller n front told (ap is_some at.is_free) refl other in
      let mid = (front ++ r.lead) ++ next_turn plans k ∷ [] in
      let before : Agrees plans (front ++ r.lead) list false = moved_to front (front ++ r.lead) list false (shared_after plans r.lead front r.quiet) (as_free front k list at) in
      let got : Agrees plans mid list true = record { list_is = r.step.list_is ∙ before.list_is; length_is = r.step.length_is ∙ before.length_is; held_is = r.step.held_is } in
      let e = to_end plans k caller r.left mid told got.held_is r.told_is (λ same. other (ap (λ (z : World A). z.answers) (sym r.same_end) ∙ same)) in
      let last : World A = world_of plans ((mid ++ e.lead) ++ next_turn plans k ∷ []) in
      let is : last ≡ world_of plans (front ++ turns_alone k n) = e.same_end ∙ r.same_end in
      let all : last.answers ≡ told ++ a ∷ [] = ap (λ (z : World A). z.answers) is ∙ answers in
      record {
        before = r.lead;
        quiet_before = r.quiet;
        acquires = r.step;
        acquired = got;
        within = e.lead;
        quiet_within = e.quiet;
        held = moved_to mid (mid ++ e.lead) list true (shared_after plans e.lead mid e.quiet) got;
        ended = record {
          list_is = ap (λ (z : World A). list_of z.events) is ∙ events ∙ ap (λ (z : List (ℕ × ℕ)). z ++ new) at.list_is;
          is_free = ap (λ (z : World A). z.held) is ∙ free;
          fresh = λ thread more. subst (λ (z : List (Answer A)). answers_of thread z ≡ []) (sym all)
              (answers_other thread told a (ap (λ (z : ℕ). z == thread) whose ∙ apart k thread (omega (arith, more))) (at.fresh thread (omega (arith, more))));
        };
      }

  none_of : (front : List Turn) (k : ℕ) (list : List (ℕ × ℕ)) → IsFree front k list → length (answers_of k (world_of plans front).answers) ≡ 0
  none_of front k list at = ap length (at.fresh k (omega arith))

  length_of : (front : List Turn) (k : ℕ) (list : List (ℕ × ℕ)) → IsFree front k list → (world_of plans front).length ≡ length list
  length_of front k list at = at_length plans front list at.list_is

  push : (front : List Turn) (k x : ℕ) (list : List (ℕ × ℕ)) → IsFree front k list → slice_get plans k ≡ Some (Pusher (x ∷ [])) → length list + 1 < 2 ^ 62 → Block front k list (written_by k (x ∷ []))
  push front k x list at plan small =
      let r = pushes_end plans front k x (x ∷ []) plan (ap (slice_get (x ∷ [])) (none_of front k list at)) at.is_free (let l = length_of front k list at in omega (arith, l, small)) in
      block front k r.0 list (written_by k (x ∷ [])) (Pushed k (world_of plans front).length) at (pusher plans k x plan) refl r.2.list_is r.2.answers_are r.2.is_free

  extend : (front : List Turn) (k : ℕ) (xs : List ℕ) (list : List (ℕ × ℕ)) → IsFree front k list → slice_get plans k ≡ Some (Extender xs) → length list + length xs < 2 ^ 62 → Block front k list (written_by k xs)
  extend front k xs list at plan small =
      let r = extensions_end plans front k xs plan (none_of front k list at) at.is_free (let l = length_of front k list at in omega (arith, l, small)) in
      block front k r.0 list (written_by k xs) (ExtendedAt k (world_of plans front).length (length xs)) at (extender plans k xs plan) refl r.2.list_is r.2.answers_are r.2.is_free

  refuse : (front : List Turn) (k : ℕ) (list : List (ℕ × ℕ)) → IsFree front k list → slice_get plans k ≡ Some (Extender too_many) → Block front k list []
  refuse front k list at plan =
      let r = refusal_ends plans front k too_many plan many (none_of front k list at) at.is_free in
      block front k r.0 list [] (Refused k) at (extender plans k too_many plan) refl (r.1.list_is ∙ sym (append-nil (list_of (world_of plans front).events))) r.1.answers_are r.1.is_free

-- In a history each event ends a hold or begins one, by turns: this is whether a thread has the lock before it.
abbrev Alternates : {T : Type 0} → Bool → List (Event T) → Type 0
Alternates held [] = Unit {0}
Alternates held (e ∷ es) = (held ≡ not (begins_hold e)) × Alternates (begins_hold e) es

-- if one is not the other, the other is not the one
other_one : (b c : Bool) → b ≡ not c → c ≡ not b
other_one true true is = is
other_one true false is = refl
other_one false true is = refl
other_one false false is = is

one_event : {T : Type 0} (held : Bool) (es : List (Event T)) (e : Event T) → Alternates held es → held_from held es ≡ not (begins_hold e) → Alternates held (es ++ e ∷ [])
one_event held [] e so is = (is, tt)
one_event held (d ∷ es) e so is = (so.0, one_event (begins_hold d) es e so.1 is)

-- A step adds its event to a history in which a thread has the lock or not, as the event needs it, or changes nothing.
step_alternates : {T : Type 0} (e : Event T) (xs ys r : List (Event T)) → IsStep e xs ys r → Alternates true xs → Alternates true ys
step_alternates {T} Acquired xs ys r h so = subst (Alternates {T = T} true) (sym h.1.0) (one_event true xs Acquired so h.1.1.was_free)
step_alternates {T} (Published x) xs ys r h so = elim h.1 [
  | inl same ↦ subst (Alternates {T = T} true) (sym same) so
  | inr p ↦ subst (Alternates {T = T} true) (sym p.0) (one_event true xs (Published x) so p.1.was_held)
]
step_alternates {T} (Extended a cs) xs ys r h so = elim h.1 [
  | inl same ↦ subst (Alternates {T = T} true) (sym same) so
  | inr p ↦ subst (Alternates {T = T} true) (sym p.0) (one_event true xs (Extended a cs) so p.1.was_held)
]
step_alternates {T} (Cloned cs) xs ys r h so = elim h.1 [
  | inl same ↦ subst (Alternates {T = T} true) (sym same) so
  | inr p ↦ subst (Alternates {T = T} true) (sym p.0) (one_event true xs (Cloned cs) so p.1.was_held)
]
step_alternates {T} Released xs ys r h so = elim h.1 [
  | inl same ↦ subst (Alternates {T = T} true) (sym same) so
  | inr p ↦ subst (Alternates {T = T} true) (sym p.0) (one_event true xs Released so p.1.was_held)
]
step_alternates {T} (OfferOf a n) xs ys r h so = subst (Alternates {T = T} true) (sym h.1.0) so

made_alternates : {T : Type 0} (log : List (Event T)) → IsMade log → Alternates true log
made_alternates _ begins = tt
made_alternates log (steps event before answer made step) = step_alternates event before log answer step (made_alternates before made)

module _ {T : Type 0} (code : T → ℕ) where
  -- the items of an extension or of a clone, without their writers
  bare : (a : ℕ) (xs : List T) → map code (items_of (entries_by a xs)) ≡ map code xs
  bare a [] = refl
  bare a (x ∷ xs) = ap (λ (l : List ℕ). code x ∷ l) (bare a xs)

  -- the number of items that events publish
  abbrev total : List (Event T) → ℕ
  total [] = 0
  total (e ∷ es) = length (items code e) + total es

  module _ {A : Type 0} (plans : List (Plan A)) where
    -- the block of an event that ends a hold
    ends : (front : List Turn) (k : ℕ) (list : List (ℕ × ℕ)) (e : Event T) → begins_hold e ≡ false → IsFree plans front k list → slice_get plans k ≡ Some (plan_of code e) → length list + length (items code e) < 2 ^ 62
        → Block plans front k list (written_by k (items code e))
    ends front k list Acquired is at plan small = absurd (true≢false is)
    ends front k list (Published x) is at plan small = push plans front k (code x.item) list at plan small
    ends front k list (Extended a xs) is at plan small =
        let b = bare a xs in subst (λ (z : List ℕ). Block plans front k list (written_by k z)) (sym b) (extend plans front k (map code xs) list at plan (let l = ap length b in omega (arith, l, small)))
    ends front k list (Cloned xs) is at plan small =
        let b = bare 0 xs in subst (λ (z : List ℕ). Block plans front k list (written_by k z)) (sym b) (extend plans front k (map code xs) list at plan (let l = ap length b in omega (arith, l, small)))
    ends front k list Released is at plan small = refuse plans front k list at plan
    ends front k list (OfferOf a n) is at plan small = refuse plans front k list at plan

    extends_by : (k : ℕ) (front after : List Turn) (list : List (ℕ × ℕ)) (xs ys : List ℕ) → xs ≡ ys → Agrees plans front list true → Agrees plans after (list ++ written_by k xs) false → Extends (written_by k ys) (shared_of (world_of plans front)) (shared_of (world_of plans after))
    extends_by k front after list xs ys same v w =
        let new = written_by k xs in
        let l = length-append list new in let a = v.length_is in let b = w.length_is in
        let e : Extends new (shared_of (world_of plans front)) (shared_of (world_of plans after)) =
        record { was_held = v.held_is; length_is = omega (arith, l, a, b); held_is = w.held_is; list_is = w.list_is ∙ ap (λ (z : List (ℕ × ℕ)). z ++ new) (sym v.list_is) } in
        subst (λ (z : List ℕ). Extends (written_by k z) (shared_of (world_of plans front)) (shared_of (world_of plans after))) same e

    releases_by : (front after : List Turn) (list : List (ℕ × ℕ)) → Agrees plans front list true → Agrees plans after (list ++ []) false → Releases (shared_of (world_of plans front)) (shared_of (world_of plans after))
    releases_by front after list v w =
        let n = append-nil list in let l = ap length n in let a = v.length_is in let b = w.length_is in
        record { was_held = v.held_is; length_is = omega (arith, l, a, b); held_is = w.held_is; list_is = w.list_is ∙ n ∙ sym v.list_is }

    -- the atomic step of an event that ends a hold, by what is shared before and after it
    step_of : (e : Event T) (k : ℕ) (front after : List Turn) (list : List (ℕ × ℕ)) → begins_hold e ≡ false → Agrees plans front list true → Agrees plans after (list ++ written_by k (items code e)) false
        → AtomicStep code k e (shared_of (world_of plans front)) (shared_of (world_of plans after))
    step_of Acquired k front after list is v w = absurd (true≢false is)
    step_of (Published x) k front after list is v w =
        let new : List (ℕ × ℕ) = written_by k (code x.item ∷ []) in
        let l = length-append list new in let a = v.length_is in let b = w.length_is in
        record { was_held = v.held_is; length_is = omega (arith, l, a, b); held_is = w.held_is; list_is = w.list_is ∙ ap (λ (z : List (ℕ × ℕ)). z ++ new) (sym v.list_is) }
    step_of (Extended a xs) k front after list is v w = extends_by k front after list (items code (Extended a xs)) (map code xs) (bare a xs) v w
    step_of (Cloned xs) k front after list is v w = extends_by k front after list (items code (Cloned xs)) (map code xs) (bare 0 xs) v w
    step_of Released k front after list is v w = releases_by front after list v w
    step_of (OfferOf a n) k front after list is v w = releases_by front after list v w

    -- the plans from the index k on are those of these events
    abbrev ArePlans : ℕ → List (Event T) → Type 0
    ArePlans k es = (i : ℕ) (e : Event T) → slice_get es i ≡ Some e → slice_get plans (k + i) ≡ Some (plan_of code e)

    later : (k : ℕ) (e : Event T) (es : List (Event T)) → ArePlans k (e ∷ es) → ArePlans (suc k) es
    later k e es plan i d is = subst (λ n. slice_get plans n ≡ Some (plan_of code d)) (let z : k + suc i ≡ suc k + i = omega arith in z) (plan (suc i) d is)

    first : (k : ℕ) (e : Event T) (es : List (Event T)) → ArePlans k (e ∷ es) → slice_get plans k ≡ Some (plan_of code e)
    first k e es plan = subst (λ n. slice_get plans n ≡ Some (plan_of code e)) (let z : k + 0 ≡ k = omega arith in z) (plan 0 e refl)

    -- threads that have no result from k on have none from k + 1 on
    skip : (front : List Turn) (k : ℕ) (list : List (ℕ × ℕ)) → IsFree plans front k list → IsFree plans front (suc k) list
    skip front k list at = record { list_is = at.list_is; is_free = at.is_free; fresh = λ thread more. at.fresh thread (omega (arith, more)) }

    added : (k : ℕ) (e : Event T) (list : List (ℕ × ℕ)) → length (list ++ written_by k (items code e)) ≡ length list + length (items code e)
    added k e list = length-append list (written_by k (items code e)) ∙ ap (λ n. length list + n) (written_by_length k (items code e))

    -- from an acquire on: the event after it, if there is one, ends the hold
    acquire : (e : Event T) (k : ℕ) (front : List Turn) (list : List (ℕ × ℕ)) → begins_hold e ≡ true → slice_get plans k ≡ Some (plan_of code e) → IsFree plans front k list → Block plans front k list []
    acquire Acquired k front list is plan at = refuse plans front k list at plan
    acquire (Published x) k front list is plan at = absurd (true≢false (sym is))
    acquire (Extended a xs) k front list is plan at = absurd (true≢false (sym is))
    acquire (Cloned xs) k front list is plan at = absurd (true≢false (sym is))
    acquire Released k front list is plan at = absurd (true≢false (sym is))
    acquire (OfferOf a n) k front list is plan at = absurd (true≢false (sym is))

    -- an acquire is the atomic step of its event
    acquire_step : (e : Event T) (k n : ℕ) (v w : Shared (ℕ × ℕ)) → begins_hold e ≡ true → n ≡ v.length → Acquires n v w → AtomicStep code k e v w
    acquire_step Acquired k n v w is at step = subst (λ z. Acquires z v w) at step
    acquire_step (Published x) k n v w is at step = absurd (true≢false (sym is))
    acquire_step (Extended a xs) k n v w is at step = absurd (true≢false (sym is))
    acquire_step (Cloned xs) k n v w is at step = absurd (true≢false (sym is))
    acquire_step Released k n v w is at step = absurd (true≢false (sym is))
    acquire_step (OfferOf a m) k n v w is at step = absurd (true≢false (sym is))

    nothing : (e : Event T) → begins_hold e ≡ true → items code e ≡ []
    nothing Acquired is = refl
    nothing (Published x) is = absurd (true≢false (sym is))
    nothing (Extended a xs) is = absurd (true≢false (sym is))
    nothing (Cloned xs) is = absurd (true≢false (sym is))
    nothing Released is = absurd (true≢false (sym is))
    nothing (OfferOf a n) is = absurd (true≢false (sym is))

    -- an acquire leaves the list
    same_list : (e : Event T) (k : ℕ) (list : List (ℕ × ℕ)) → begins_hold e ≡ true → list ++ written_by k (items code e) ≡ list
    same_list e k list is = ap (λ (z : List ℕ). list ++ written_by k z) (nothing e is) ∙ append-nil list

    -- the block's first part does the acquire
    does_acquire : (e : Event T) (k j : ℕ) (front : List Turn) (list new : List (ℕ × ℕ)) → begins_hold e ≡ true → (b : Block plans front j list new) → Does code plans k e front b.before (next_turn plans j)
    does_acquire e k j front list new is b = record { are_quiet = b.quiet_before; step = acquire_step e k (world_of plans (front ++ b.before)).length (shared_of (world_of plans (front ++ b.before))) (shared_of (world_of plans ((front ++ b.before) ++ next_turn plans j ∷ []))) is refl b.acquires }

    follows : (es : List (Event T)) (k : ℕ) (front : List Turn) (list : List (ℕ × ℕ)) → Alternates false es → IsFree plans front k list → ArePlans k es → length list + total es < 2 ^ 62 → Follows code plans k es front list false
    follows [] k front list so at plan small = as_free plans front k list at
    follows (e ∷ []) k front list so at plan small =
        let is : begins_hold e ≡ true = other_one false (begins_hold e) so.0 in
        let b = acquire e k front list is (first k e [] plan) at in
        let l = same_list e k list is in
        let mid = (front ++ b.before) ++ next_turn plans k ∷ [] in (
          as_free plans front k list at,
          (
            b.before,
            next_turn plans k,
            does_acquire e k k front list [] is b,
            subst (λ (z : List (ℕ × ℕ)). Agrees plans mid z (begins_hold e)) (sym l) (subst (λ (z : Bool). Agrees plans mid list z) (sym is) b.acquired),
          ),
        )
    follows (e ∷ d ∷ es) k front list so at plan small =
        let is : begins_hold e ≡ true = other_one false (begins_hold e) so.0 in
        let l = same_list e k list is in
        let none = ap length (nothing e is) in
        let ends_it : begins_hold d ≡ false = other_one (begins_hold e) (begins_hold d) so.1.0 ∙ ap not is in
        let plan1 = later k e (d ∷ es) plan in
        let b = ends front (suc k) list d ends_it (skip front k list at) (first (suc k) d es plan1) (omega (arith, none, small)) in
        let more = added (suc k) d list in
        let turn = next_turn plans (suc k) in
        let mid = (front ++ b.before) ++ turn ∷ [] in
        let after = (mid ++ b.within) ++ turn ∷ [] in
        let new = list ++ written_by (suc k) (items code d) in
        let rest : Follows code plans (suc (suc k)) es after new false =
        follows es (suc (suc k)) after new (subst (λ (z : Bool). Alternates z es) ends_it so.1.1) b.ended (later (suc k) d es plan1) (omega (arith, none, more, small)) in
        let does : Does code plans (suc k) d mid b.within turn = record { are_quiet = b.quiet_within; step = step_of d (suc k) (mid ++ b.within) after list ends_it b.held (as_free plans after (suc (suc k)) new b.ended) } in
        let held : Follows code plans (suc k) (d ∷ es) mid list true = (b.acquired, (b.within, turn, does, subst (λ (z : Bool). Follows code plans (suc (suc k)) es after new z) (sym ends_it) rest)) in (
          as_free plans front k list at,
          (
            b.before,
            turn,
            does_acquire e k (suc k) front list (written_by (suc k) (items code d)) is b,
            subst (λ (z : List (ℕ × ℕ)). Follows code plans (suc k) (d ∷ es) mid z (begins_hold e)) (sym l) (subst (λ (z : Bool). Follows code plans (suc k) (d ∷ es) mid list z) (sym is) held),
          ),
        )

  plan_at : {A : Type 0} (es : List (Event T)) (i : ℕ) (e : Event T) → slice_get es i ≡ Some e → slice_get (map (plan_of code {A = A}) es) i ≡ Some (plan_of code {A = A} e)
  plan_at [] i e is = absurd (cc is)
  plan_at (d ∷ es) zero e is = let same : d ≡ e = cc is in ap (λ (z : Event T). Some (plan_of code z)) same
  plan_at (d ∷ es) (suc i) e is = plan_at es i e is

  total_is : (es : List (Event T)) → total es ≡ length (history.list_of es)
  total_is [] = refl
  total_is (e ∷ es) =
      let here : length (items code e) ≡ length (history.entries e) = length-map (items_of (history.entries e)) code ∙ length-map (history.entries e) (λ (x : Entry T). x.item) in
      let rest = total_is es in let l = length-append (history.entries e) (history.list_of es) in omega (arith, here, rest, l)

  -- Each history that the rule allows is one of the machine.
  pub each_made : (A : Type 0) (log : List (Event T)) → IsMade log → length (history.list_of log) < 2 ^ 62 → IsOfMachine code A log
  each_made A [] made small = tt
  each_made A (e ∷ es) made small =
      let so = made_alternates (e ∷ es) made in
      let ends_it : begins_hold e ≡ false = other_one true (begins_hold e) so.0 in
      let plans : List (Plan A) = map (plan_of code) (e ∷ es) in
      let all : ArePlans plans 0 (e ∷ es) = λ i d is. subst (λ (n : ℕ). slice_get plans n ≡ Some (plan_of code {A = A} d)) (let z : i ≡ 0 + i = omega arith in z) (plan_at (e ∷ es) i d is) in
      let t = total_is (e ∷ es) in
      let start : IsFree plans [] 0 [] = record { list_is = refl; is_free = refl; fresh = λ thread more. refl } in
      let b = ends plans [] 0 [] e ends_it start (first plans 0 e es all) (omega (arith, t, small)) in
      let l = written_by_length 0 (items code e) in
      let turn = next_turn plans 0 in
      let after = ((([] ++ b.before) ++ turn ∷ []) ++ b.within) ++ turn ∷ [] in (
        after,
        subst (λ (z : Bool). Follows code plans 1 es after (written_by 0 (items code e)) z) (sym ends_it)
            (follows plans es 1 after (written_by 0 (items code e)) (subst (λ (z : Bool). Alternates z es) ends_it so.1) b.ended (later plans 0 e es all) (omega (arith, t, l, small))),
      )

  -- the numbers of a thread's entries are its items
  numbers : (k : ℕ) (xs : List ℕ) → map number_of (written_by k xs) ≡ xs
  numbers k [] = refl
  numbers k (x ∷ xs) = ap (λ (l : List ℕ). x ∷ l) (numbers k xs)

  -- the items of an event and those of the events after it
  items_first : (e : Event T) (es : List (Event T)) → map code (items_of (history.list_of (e ∷ es))) ≡ items code e ++ map code (items_of (history.list_of es))
  items_first e es =
      let a = map-append (λ (x : Entry T). x.item) (history.entries e) (history.list_of es) in
      ap (map code) a ∙ map-append code (items_of (history.entries e)) (items_of (history.list_of es))

  -- what the machine has after events that it follows
  record Ended {A : Type 0} (plans : List (Plan A)) (es : List (Event T)) (list : List (ℕ × ℕ)) (held : Bool) (schedule : List Turn) (end : List (ℕ × ℕ)) : Type 0 where
    agrees : Agrees plans schedule end (held_from held es)
    numbers_are : map number_of end ≡ map number_of list ++ map code (items_of (history.list_of es))

  follows_to : {A : Type 0} (plans : List (Plan A)) (k : ℕ) (es : List (Event T)) (front : List Turn) (list : List (ℕ × ℕ)) (held : Bool)
      → Follows code plans k es front list held → (schedule : List Turn) × (end : List (ℕ × ℕ)) × Ended plans es list held schedule end
  follows_to plans k [] front list held agrees = (front, list, record { agrees = agrees; numbers_are = sym (append-nil (map number_of list)) })
  follows_to plans k (e ∷ es) front list held (agrees, (lead, turn, does, more)) =
      let new : List (ℕ × ℕ) = written_by k (items code e) in
      let r = follows_to plans (suc k) es ((front ++ lead) ++ turn ∷ []) (list ++ new) (begins_hold e) more in
      let rest : List ℕ = map code (items_of (history.list_of es)) in
      let here : map number_of (list ++ new) ≡ map number_of list ++ items code e = map-append number_of list new ∙ ap (λ (l : List ℕ). map number_of list ++ l) (numbers k (items code e)) in
      let all : map number_of (list ++ new) ++ rest ≡ map number_of list ++ map code (items_of (history.list_of (e ∷ es))) =
      ap (λ (l : List ℕ). l ++ rest) here ∙ (append_assoc (map number_of list) (items code e) rest ∙ ap (λ (l : List ℕ). map number_of list ++ l) (sym (items_first e es))) in
      (r.0, r.1, record { agrees = r.2.agrees; numbers_are = r.2.numbers_are ∙ all })

  -- The machine ends where the history does.
  pub machine_ends : (A : Type 0) (log : List (Event T)) → IsOfMachine code A log → IsReached code A log
  machine_ends A [] of = ([], record { items_are = refl; length_is = refl; held_is = refl })
  machine_ends A (e ∷ es) of =
      let plans : List (Plan A) = map (plan_of code) (e ∷ es) in
      let r = follows_to plans 1 es of.0 (written_by 0 (items code e)) (begins_hold e) of.1 in
      let at = r.2 in
      let whole : map number_of r.1 ≡ map code (items_of (history.list_of (e ∷ es))) =
      at.numbers_are ∙ (ap (λ (l : List ℕ). l ++ map code (items_of (history.list_of es))) (numbers 0 (items code e)) ∙ sym (items_first e es)) in
      let many : length r.1 ≡ length (history.list_of (e ∷ es)) =
      sym (length-map r.1 number_of) ∙ (ap length whole ∙ (length-map (items_of (history.list_of (e ∷ es))) code ∙ length-map (history.list_of (e ∷ es)) (λ (x : Entry T). x.item))) in
      (r.0, record { items_are = ap (map number_of) at.agrees.list_is ∙ whole; length_is = at.agrees.length_is ∙ many; held_is = at.agrees.held_is })
