-- The result of an extender is right, and stays right.
use Rattle.std.proofs.Common.{ℕ, zero, suc, ◌+◌, ◌≡◌, Bool, List, [], ◌∷◌, ◌++◌, length, Some, slice_get, refl, arith, ap, ◌∙◌, subst, suc-add, zero-add}
use Rattle.elsa_machine.specs.declared.machine.Plan.TheVariants.{Extender}
use Rattle.elsa_machine.specs.declared.machine.Answer.{Answer}
use Rattle.elsa_machine.specs.declared.machine.Answer.TheVariants.{Pushed, Extended, Refused, Read, Cloned, CloneRefused}
use Rattle.elsa_machine.specs.declared.machine.World.{World}
use Rattle.elsa_machine.specs.declared.machine.turns.Phase.{Phase}
use Rattle.elsa_machine.specs.declared.machine.turns.Phase.TheVariants.{Ready, Peeked, Acquired, Written, Filling, Denied, Looked, Done}
use Rattle.elsa_machine.specs.declared.machine.turns.Thread.{Thread}
use Rattle.elsa_machine.specs.Machine.{Moved}
use Rattle.elsa_machine.specs.Worlds.{written_by, list_of, answers_of, AreAt, IsExtension}
use Rattle.elsa_machine.proofs.MachineLemmas.Rules.{Transition, stays, peeks, acquires, loses, refuses, reserves, lacks, fills, fill_opens, extends}
use Rattle.elsa_machine.proofs.MachineLemmas.Kept.{list_extend, take_every, HolderOk, WorldOk}
use Rattle.elsa_machine.proofs.MachineLemmas.Growth.{answers_mine, get_more, Grown}

-- An item of the second of two lists.
pub get_behind : {A : Type 0} (xs ys : List A) (k : ℕ) → slice_get (xs ++ ys) (length xs + k) ≡ slice_get ys k
get_behind [] ys k = ap (slice_get ys) (zero-add k)
get_behind (x ∷ xs) ys k = ap (slice_get (x ∷ xs ++ ys)) (suc-add (length xs) k) ∙ get_behind xs ys k

-- An entry of a thread's items.
pub written_by_get : (me : ℕ) (xs : List ℕ) (k x : ℕ) → slice_get xs k ≡ Some x → slice_get (written_by me xs) k ≡ Some (me, x)
written_by_get me [] k x e = cc
written_by_get me (y ∷ xs) zero x e = let f : y ≡ x = cc in ap (λ z. Some (me, z)) f
written_by_get me (y ∷ xs) (suc k) x e = written_by_get me xs k x e

extension_more : {A : Type 0} (list more : List (ℕ × ℕ)) (me : ℕ) (items : List ℕ) (xs : List (Answer A)) → IsExtension list me items xs → IsExtension (list ++ more) me items xs
extension_more list more me items [] h = tt
extension_more list more me items (Extended u n c ∷ []) h = (h.0, λ k x e. get_more list more (n + k) (me, x) (h.1 k x e))
extension_more list more me items (Refused u ∷ []) h = tt
extension_more list more me items (Extended u n c ∷ y ∷ xs) h = h
extension_more list more me items (Refused u ∷ y ∷ xs) h = h
extension_more list more me items (Pushed u p ∷ xs) h = h
extension_more list more me items (Read u i v ∷ xs) h = h
extension_more list more me items (Cloned u c ∷ xs) h = h
extension_more list more me items (CloneRefused u ∷ xs) h = h

-- An extender is in no phase of a reader, a cloner or a pusher, and beyond Ready it has no result.
abbrev pub IsExtending : ℕ → Phase → Type 0
IsExtending next Ready = Unit {0}
IsExtending next (Peeked n) = next ≡ 0
IsExtending next (Acquired n) = next ≡ 0
IsExtending next (Filling n k) = next ≡ 0
IsExtending next Denied = next ≡ 0
IsExtending next (Written n) = ⊥
IsExtending next (Looked n) = ⊥
IsExtending next Done = ⊥

-- The result of an extender so far.
pub record ExtenderOk {A : Type 0} (items : List ℕ) (me : ℕ) (w : World A) (next : ℕ) (phase : Phase) : Type 0 where
  pub met : IsExtension (list_of w.events) me items (answers_of me w.answers)
  pub count : length (answers_of me w.answers) ≡ next
  pub extending : IsExtending next phase

-- Another thread's turn doesn't change what is known about an extender's result.
pub extender_grown : {A : Type 0} (items : List ℕ) (me you : ℕ) (v w : World A) (next : ℕ) (phase : Phase) → (you ≡ me → ⊥) → Grown me v w → ExtenderOk items you v next phase → ExtenderOk items you w next phase
extender_grown items me you v w next phase ne g h = record {
  extending = h.extending;
  met = rw (g.told you ne, g.list_is) (extension_more (list_of v.events) g.more you items (answers_of you v.answers) h.met);
  count = rw (g.told you ne) h.count;
}

-- A list without items.
none_left : {A : Type 0} (xs : List A) → length xs ≡ 0 → xs ≡ []
none_left [] e = refl
none_left (x ∷ xs) e = absurd (omega (arith, e))

-- The first result of a thread.
first_answer : {A : Type 0} (me : ℕ) (xs : List (Answer A)) (a : Answer A) → length (answers_of me xs) ≡ 0 → answers_of me (xs ++ a ∷ []) ≡ answers_of me xs ++ a ∷ [] → answers_of me (xs ++ a ∷ []) ≡ a ∷ []
first_answer me xs a z e = e ∙ ap (λ l. l ++ a ∷ []) (none_left (answers_of me xs) z)

-- An extender's own turn preserves it.
pub extender_kept : {A : Type 0} (me : ℕ) (memory : Bool) (w : World A) (t : Thread A) (items : List ℕ) (after : Moved A) → WorldOk w → HolderOk w me items t.phase → ExtenderOk items me w t.next t.phase → Transition me memory w t (Extender items) after → ExtenderOk items me after.world after.thread.next after.thread.phase
extender_kept me memory w t items _ ok h o (stays i) = o
extender_kept me memory w t items _ ok h o (peeks p e f) = record { met = o.met; count = o.count; extending = e }
extender_kept me memory w t items _ ok h o (acquires p e b) = record { met = o.met; count = o.count; extending = e }
extender_kept me memory w t items _ ok h o (loses p e b) = record { met = o.met; count = o.count; extending = tt }
extender_kept me memory w t items _ ok h o (reserves p e b) = record { met = o.met; count = o.count; extending = e }
extender_kept me memory w t items _ ok h o (lacks p e b) = record { met = o.met; count = o.count; extending = e }
extender_kept me memory w t items _ ok h o (fills p e i b) = record { met = o.met; count = o.count; extending = e }
extender_kept me memory w t items _ ok h o (fill_opens p e i b) = record { met = o.met; count = o.count; extending = o.extending }
extender_kept me memory w t items _ ok h o (extends {n = n} {k} p e i) =
    let j = subst (HolderOk w me items) p h in
    let every = take_every k items i j.3 in
    let a : answers_of me (w.answers ++ Extended me n k ∷ []) ≡ Extended me n k ∷ [] = first_answer me w.answers (Extended me n k) (o.count ∙ e) (answers_mine me w.answers (Extended me n k) refl) in
    let at : AreAt (list_of w.events ++ written_by me items) me n items = λ y x f. ap (λ m. slice_get (list_of w.events ++ written_by me items) (m + y)) (j.2 ∙ ok.counted) ∙ get_behind (list_of w.events) (written_by me items) y ∙ written_by_get me items y x f in
    record {
      met = rw (list_extend w.events me items, a) (every.1, at);
      count = rw a (omega (arith, e));
      extending = tt;
    }
extender_kept me memory w t items _ ok h o (refuses p e) =
    let a : answers_of me (w.answers ++ Refused me ∷ []) ≡ Refused me ∷ [] = first_answer me w.answers (Refused me) (o.count ∙ e) (answers_mine me w.answers (Refused me) refl) in
    record { met = rw a tt; count = rw a (omega (arith, e)); extending = tt }
