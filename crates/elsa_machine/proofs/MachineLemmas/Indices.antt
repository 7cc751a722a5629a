-- No index is returned twice.
use Rattle.std.proofs.Common.{ℕ, suc, zero, ◌+◌, ◌-◌, ◌<◌, ◌≤◌, ◌≡◌, ◌∙◌, length, List, [], ◌∷◌, Option, Some, slice_get, refl, arith, ap, sym, subst}
use Rattle.elsa_machine.specs.declared.machine.Plan.{Plan}
use Rattle.elsa_machine.specs.declared.machine.Plan.TheVariants.{Pusher, Extender, Reader, Cloner}
use Rattle.elsa_machine.specs.declared.machine.Turn.{Turn}
use Rattle.elsa_machine.specs.declared.machine.Answer.{Answer}
use Rattle.elsa_machine.specs.declared.machine.World.{World}
use Rattle.elsa_machine.specs.declared.machine.Answer.TheVariants.{Pushed, Extended, Refused, Read, Cloned, CloneRefused}
use Rattle.elsa_machine.specs.Machine.{world_of}
use Rattle.elsa_machine.specs.Worlds.{list_of, answers_of, looks_of, AreAt, AreOutcomes, HasIndex, IsClone, IsExtension, IsNoIndexTwice, IsToldRight}
use Rattle.elsa_machine.proofs.MachineLemmas.Growth.{entry_at}
use Rattle.elsa_machine.proofs.MachineLemmas.Runs.{told}

-- The entry of the list at an index that was returned to a pusher; the index is at least the bound.
outcome_at : {A : Type 0} (list : List (ℕ × ℕ)) (t least : ℕ) (items : List ℕ) (xs : List (Answer A)) (k by place : ℕ) → AreOutcomes list t least items xs → slice_get xs k ≡ Some (Pushed by place) → ((x : ℕ) × (slice_get list place ≡ Some (t, x))) × (least ≤ place)
outcome_at list t least items [] k by place h e = cc
outcome_at list t least (x ∷ items) (Pushed u p ∷ xs) zero by place h e = let q : p ≡ place = cc in ((x, subst (λ z. slice_get list z ≡ Some (t, x)) q h.0), omega (arith, h.1, q))
outcome_at list t least (x ∷ items) (Pushed u p ∷ xs) (suc k) by place h e = let r = outcome_at list t (suc p) items xs k by place h.2 e in (r.0, omega (arith, r.1, h.1))
outcome_at list t least (x ∷ items) (Refused u ∷ xs) zero by place h e = cc
outcome_at list t least (x ∷ items) (Refused u ∷ xs) (suc k) by place h e = outcome_at list t least items xs k by place h e
outcome_at list t least (x ∷ items) (Extended u z m ∷ xs) k by place h e = absurd h
outcome_at list t least (x ∷ items) (Read u i v ∷ xs) k by place h e = absurd h
outcome_at list t least (x ∷ items) (Cloned u c ∷ xs) k by place h e = absurd h
outcome_at list t least (x ∷ items) (CloneRefused u ∷ xs) k by place h e = absurd h
outcome_at list t least [] (Pushed u p ∷ xs) k by place h e = absurd h
outcome_at list t least [] (Refused u ∷ xs) k by place h e = absurd h
outcome_at list t least [] (Extended u z m ∷ xs) k by place h e = absurd h
outcome_at list t least [] (Read u i v ∷ xs) k by place h e = absurd h
outcome_at list t least [] (Cloned u c ∷ xs) k by place h e = absurd h
outcome_at list t least [] (CloneRefused u ∷ xs) k by place h e = absurd h

once : {A : Type 0} (list : List (ℕ × ℕ)) (t least : ℕ) (items : List ℕ) (xs : List (Answer A)) (j k by of place : ℕ) → AreOutcomes list t least items xs → slice_get xs j ≡ Some (Pushed by place) → slice_get xs k ≡ Some (Pushed of place) → j ≡ k
once list t least items [] j k by of place h e f = cc
once list t least (x ∷ items) (Pushed u p ∷ xs) zero zero by of place h e f = refl
once list t least (x ∷ items) (Pushed u p ∷ xs) zero (suc k) by of place h e f = let q : p ≡ place = cc in let r = outcome_at list t (suc p) items xs k of place h.2 f in absurd (omega (arith, r.1, q))
once list t least (x ∷ items) (Pushed u p ∷ xs) (suc j) zero by of place h e f = let q : p ≡ place = cc in let r = outcome_at list t (suc p) items xs j by place h.2 e in absurd (omega (arith, r.1, q))
once list t least (x ∷ items) (Pushed u p ∷ xs) (suc j) (suc k) by of place h e f = ap suc (once list t (suc p) items xs j k by of place h.2 e f)
once list t least (x ∷ items) (Refused u ∷ xs) zero k by of place h e f = cc
once list t least (x ∷ items) (Refused u ∷ xs) (suc j) zero by of place h e f = cc
once list t least (x ∷ items) (Refused u ∷ xs) (suc j) (suc k) by of place h e f = ap suc (once list t least items xs j k by of place h e f)
once list t least (x ∷ items) (Extended u z m ∷ xs) j k by of place h e f = absurd h
once list t least (x ∷ items) (Read u i v ∷ xs) j k by of place h e f = absurd h
once list t least (x ∷ items) (Cloned u c ∷ xs) j k by of place h e f = absurd h
once list t least (x ∷ items) (CloneRefused u ∷ xs) j k by of place h e f = absurd h
once list t least [] (Pushed u p ∷ xs) j k by of place h e f = absurd h
once list t least [] (Refused u ∷ xs) j k by of place h e f = absurd h
once list t least [] (Extended u z m ∷ xs) j k by of place h e f = absurd h
once list t least [] (Read u i v ∷ xs) j k by of place h e f = absurd h
once list t least [] (Cloned u c ∷ xs) j k by of place h e f = absurd h
once list t least [] (CloneRefused u ∷ xs) j k by of place h e f = absurd h

writer_is : (found : Option (ℕ × ℕ)) (t x u y : ℕ) → found ≡ Some (t, x) → found ≡ Some (u, y) → t ≡ u
writer_is found t x u y e f = let p : ◌≡◌ {A = ℕ × ℕ} (t, x) (u, y) = cc in ap (λ (z : ℕ × ℕ). z.0) p

-- A list that has one item at most has it at index 0.
extension_at : {A : Type 0} (list : List (ℕ × ℕ)) (me : ℕ) (items : List ℕ) (xs : List (Answer A)) (k : ℕ) (a : Answer A) → IsExtension list me items xs → slice_get xs k ≡ Some a → k ≡ 0
extension_at list me items [] k a h e = cc
extension_at list me items (Extended u n c ∷ []) zero a h e = refl
extension_at list me items (Extended u n c ∷ []) (suc k) a h e = cc
extension_at list me items (Refused u ∷ []) zero a h e = refl
extension_at list me items (Refused u ∷ []) (suc k) a h e = cc
extension_at list me items (Extended u n c ∷ y ∷ xs) k a h e = absurd h
extension_at list me items (Refused u ∷ y ∷ xs) k a h e = absurd h
extension_at list me items (Pushed u p ∷ xs) k a h e = absurd h
extension_at list me items (Read u i v ∷ xs) k a h e = absurd h
extension_at list me items (Cloned u c ∷ xs) k a h e = absurd h
extension_at list me items (CloneRefused u ∷ xs) k a h e = absurd h

-- The item of an extension at an index that it has.
extended_item : (list : List (ℕ × ℕ)) (me first count place : ℕ) (items : List ℕ) → count ≡ length items → AreAt list me first items → first ≤ place → place < first + count → (x : ℕ) × (slice_get list place ≡ Some (me, x))
extended_item list me first count place items c at low high =
    let x = entry_at items (place - first) (omega (arith, c, low, high)) in
    let e : first + (place - first) ≡ place = omega (arith, low) in
    (x.0, ap (slice_get list) (sym e) ∙ at (place - first) x.0 x.1)

-- An extension's index has an entry of its thread.
extension_has : {A : Type 0} (list : List (ℕ × ℕ)) (me : ℕ) (items : List ℕ) (xs : List (Answer A)) (k place : ℕ) (a : Answer A) → IsExtension list me items xs → slice_get xs k ≡ Some a → HasIndex place a → (x : ℕ) × (slice_get list place ≡ Some (me, x))
extension_has list me items [] k place a h e p = cc
extension_has list me items (Extended u n c ∷ []) zero place a h e p = let q : Extended u n c ≡ a = cc in let r = subst (HasIndex place) (sym q) p in extended_item list me n c place items h.0 h.1 r.0 r.1
extension_has list me items (Extended u n c ∷ []) (suc k) place a h e p = cc
extension_has list me items (Refused u ∷ []) zero place a h e p = let q : Refused u ≡ a = cc in absurd (subst (HasIndex place) (sym q) p)
extension_has list me items (Refused u ∷ []) (suc k) place a h e p = cc
extension_has list me items (Extended u n c ∷ y ∷ xs) k place a h e p = absurd h
extension_has list me items (Refused u ∷ y ∷ xs) k place a h e p = absurd h
extension_has list me items (Pushed u i ∷ xs) k place a h e p = absurd h
extension_has list me items (Read u i v ∷ xs) k place a h e p = absurd h
extension_has list me items (Cloned u c ∷ xs) k place a h e p = absurd h
extension_has list me items (CloneRefused u ∷ xs) k place a h e p = absurd h

-- The results of a pusher that have an index are pushes.
push_is : {A : Type 0} (list : List (ℕ × ℕ)) (t least : ℕ) (items : List ℕ) (xs : List (Answer A)) (k place : ℕ) (a : Answer A) → AreOutcomes list t least items xs → slice_get xs k ≡ Some a → HasIndex place a → (by : ℕ) × (slice_get xs k ≡ Some (Pushed by place))
push_is list t least items [] k place a h e p = cc
push_is list t least (x ∷ items) (Pushed u i ∷ xs) zero place a h e p = let q : Pushed u i ≡ a = cc in let r : i ≡ place = subst (HasIndex place) (sym q) p in (u, ap (λ z. Some (Pushed u z)) r)
push_is list t least (x ∷ items) (Pushed u i ∷ xs) (suc k) place a h e p = push_is list t (suc i) items xs k place a h.2 e p
push_is list t least (x ∷ items) (Refused u ∷ xs) zero place a h e p = let q : Refused u ≡ a = cc in absurd (subst (HasIndex place) (sym q) p)
push_is list t least (x ∷ items) (Refused u ∷ xs) (suc k) place a h e p = push_is list t least items xs k place a h e p
push_is list t least (x ∷ items) (Extended u z m ∷ xs) k place a h e p = absurd h
push_is list t least (x ∷ items) (Read u i v ∷ xs) k place a h e p = absurd h
push_is list t least (x ∷ items) (Cloned u c ∷ xs) k place a h e p = absurd h
push_is list t least (x ∷ items) (CloneRefused u ∷ xs) k place a h e p = absurd h
push_is list t least [] (x ∷ xs) k place a h e p = absurd h

-- A clone has no index.
clone_has : {A : Type 0} (list : List (ℕ × ℕ)) (ls : List ℕ) (xs : List (Answer A)) (k place : ℕ) (a : Answer A) → IsClone list ls xs → slice_get xs k ≡ Some a → HasIndex place a → ⊥
clone_has list ls [] k place a h e p = cc
clone_has list (n ∷ []) (Cloned u c ∷ []) zero place a h e p = let q : Cloned u c ≡ a = cc in subst (HasIndex place) (sym q) p
clone_has list (n ∷ []) (Cloned u c ∷ []) (suc k) place a h e p = cc
clone_has list (n ∷ []) (CloneRefused u ∷ []) zero place a h e p = let q : CloneRefused u ≡ a = cc in subst (HasIndex place) (sym q) p
clone_has list (n ∷ []) (CloneRefused u ∷ []) (suc k) place a h e p = cc
clone_has list [] (x ∷ xs) k place a h e p = absurd h
clone_has list (n ∷ m ∷ ls) (x ∷ xs) k place a h e p = absurd h
clone_has list (n ∷ []) (Cloned u c ∷ y ∷ xs) k place a h e p = absurd h
clone_has list (n ∷ []) (CloneRefused u ∷ y ∷ xs) k place a h e p = absurd h
clone_has list (n ∷ []) (Pushed u i ∷ xs) k place a h e p = absurd h
clone_has list (n ∷ []) (Extended u z m ∷ xs) k place a h e p = absurd h
clone_has list (n ∷ []) (Refused u ∷ xs) k place a h e p = absurd h
clone_has list (n ∷ []) (Read u i v ∷ xs) k place a h e p = absurd h

-- An index that was returned to a thread has an entry of that thread.
index_has : {A : Type 0} (plan : Plan A) (me : ℕ) (w : World A) (k place : ℕ) (a : Answer A) → IsToldRight plan me w → slice_get (answers_of me w.answers) k ≡ Some a → HasIndex place a → (x : ℕ) × (slice_get (list_of w.events) place ≡ Some (me, x))
index_has (Pusher items) me w k place a r e p =
    let q = push_is (list_of w.events) me 0 items (answers_of me w.answers) k place a r e p in
    (outcome_at (list_of w.events) me 0 items (answers_of me w.answers) k q.0 place r q.1).0
index_has (Extender items) me w k place a r e p = extension_has (list_of w.events) me items (answers_of me w.answers) k place a r e p
index_has (Reader is) me w k place a r e p = absurd (subst (HasIndex place) (r k a e).told p)
index_has Cloner me w k place a r e p = absurd (clone_has (list_of w.events) (looks_of me w.events) (answers_of me w.answers) k place a r e p)

-- Two results of a thread that have one index are one result.
index_once : {A : Type 0} (plan : Plan A) (me : ℕ) (w : World A) (j k place : ℕ) (a b : Answer A) → IsToldRight plan me w → slice_get (answers_of me w.answers) j ≡ Some a → slice_get (answers_of me w.answers) k ≡ Some b → HasIndex place a → HasIndex place b → j ≡ k
index_once (Pusher items) me w j k place a b r e f p q =
    let list = list_of w.events in
    let xs = answers_of me w.answers in
    let x = push_is list me 0 items xs j place a r e p in
    let y = push_is list me 0 items xs k place b r f q in
    once list me 0 items xs j k x.0 y.0 place r x.1 y.1
index_once (Extender items) me w j k place a b r e f p q =
    let list = list_of w.events in
    let xs = answers_of me w.answers in
    extension_at list me items xs j a r e ∙ sym (extension_at list me items xs k b r f)
index_once (Reader is) me w j k place a b r e f p q = absurd (subst (HasIndex place) (r j a e).told p)
index_once Cloner me w j k place a b r e f p q = absurd (clone_has (list_of w.events) (looks_of me w.events) (answers_of me w.answers) j place a r e p)

-- In the world of every schedule, two results that have one index are one result.
pub no_index_twice : {A : Type 0} (plans : List (Plan A)) (schedule : List Turn) → IsNoIndexTwice plans (world_of plans schedule)
no_index_twice plans schedule = λ one other plan another j k place a b pe qe e f p q.
    let w = world_of plans schedule in
    let r = told plans schedule one plan pe in
    let x = index_has plan one w j place a r e p in
    let y = index_has another other w k place b (told plans schedule other another qe) f q in
    let same : one ≡ other = writer_is (slice_get (list_of w.events) place) one x.0 other y.0 x.1 y.1 in
    let g : slice_get (answers_of one w.answers) k ≡ Some b = subst (λ z. slice_get (answers_of z w.answers) k ≡ Some b) (sym same) f in
    (same, index_once plan one w j k place a b r e g p q)
