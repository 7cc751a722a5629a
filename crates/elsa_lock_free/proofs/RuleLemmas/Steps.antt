-- The steps keep the rule.
use Rattle.std.proofs.Common.{◌≡◌, ℕ, ◌+◌, ◌*◌, ◌<◌, ◌≤◌, ◌^◌, ◌%◌, ◌==◌, ◌⊎◌, inl, inr, Bool, true, false, List, [], ◌∷◌, ◌++◌, length, refl, ap, sym, ◌∙◌, subst, arith, length-append, None, Some, MatchBool}
use Rattle.std.proofs.lemmas.List.{append-nil}
use Rattle.std.proofs.lemmas.Bool.Decides.{nat_tests}
use mathlib.Core.List.{IsPrefix}
use prog.Atomic.{either}
use Rattle.logbook.specs.Pages.{Cell, cell, keeps, no_nib, step, Moves, Goes}
use Rattle.elsa_lock_free.specs.declared.event.Event.{Event}
use Rattle.elsa_lock_free.specs.declared.event.Event.TheVariants.{Acquired, Published, Extended, Cloned, Released, OfferOf}
use Rattle.elsa_lock_free.specs.declared.event.Entry.{Entry}
use Rattle.elsa_lock_free.specs.AtomicSteps.{bit, Acquires as IsAcquire, Extends as IsExtension, Opens as IsOpening, Publishes as IsPublish, Releases as IsRelease}
use Rattle.elsa_lock_free.specs.Distinct.{EachIsNew}
use Rattle.elsa_lock_free.specs.History.{list_of, entries, begins_hold, is_held, shared_by}
use Rattle.elsa_lock_free.specs.SharedList.{written_by, copied}
use Rattle.elsa_lock_free.specs.Rights.{IsStep}
use Rattle.elsa_lock_free.specs.OneWord.{IsKept, IsMade, steps, Acquires, EndsHold, word_of}
use Rattle.elsa_lock_free.proofs.RuleLemmas.History.{held_snoc, list_prefix, list_snoc, prefix_whole}

-- a bit is at most 1
pub bit_small : (b : Bool) → bit b ≤ 1
bit_small true = omega arith
bit_small false = omega arith

bit_none : (b : Bool) → bit b ≡ 0 → b ≡ false
bit_none true e = absurd (omega arith)
bit_none false e = refl

bit_one : (b : Bool) → bit b ≡ 1 → b ≡ true
bit_one true e = refl
bit_one false e = absurd (omega arith)

-- an event of a history
abbrev pub plain : {T : Type 0} → Event T → Bool
plain Acquired = true
plain (Published x) = true
plain (Extended a cs) = true
plain (Cloned cs) = true
plain Released = true
plain (OfferOf a n) = false

module _ (T : Type 0) where
  abbrev Log : Type 0
  Log = List (Event T)

  abbrev shown : Log → Log
  shown log = log

  pub word_snoc : (log : Log) (e : Event T) → begins_hold e ≡ false → word_of (log ++ e ∷ []) ≡ 2 * (length (list_of log) + length (entries e))
  word_snoc log e ends = let h : bit (is_held (log ++ e ∷ [])) ≡ 0 = ap bit (held_snoc true log e ∙ ends) in let l = ap length (list_snoc log e) in omega (arith, length-append (list_of log) (entries e))

  -- ---- the atomic steps, by their relations
  acquire_holds : (xs ys : Log) → ys ≡ xs ++ Acquired ∷ [] → is_held xs ≡ false → IsAcquire (length (list_of xs)) (shared_by xs) (shared_by ys)
  acquire_holds xs ys is free = let l : list_of ys ≡ list_of xs = ap list_of is ∙ (list_snoc xs Acquired ∙ append-nil (list_of xs)) in
      record { was_free = free; was_at = refl; length_is = ap length l; held_is = ap is_held is ∙ held_snoc true xs Acquired; list_is = l }

  publish_holds : (xs ys : Log) (x : Entry T) → ys ≡ xs ++ Published x ∷ [] → is_held xs ≡ true → IsPublish x (shared_by xs) (shared_by ys)
  publish_holds xs ys x is held = let l : list_of ys ≡ list_of xs ++ x ∷ [] = ap list_of is ∙ list_snoc xs (Published x) in
      record { was_held = held; length_is = ap length l ∙ length-append (list_of xs) (x ∷ []); held_is = ap is_held is ∙ held_snoc true xs (Published x); list_is = l }

  release_holds : (xs ys : Log) → ys ≡ xs ++ Released ∷ [] → is_held xs ≡ true → IsRelease (shared_by xs) (shared_by ys)
  release_holds xs ys is held = let l : list_of ys ≡ list_of xs = ap list_of is ∙ (list_snoc xs Released ∙ append-nil (list_of xs)) in
      record { was_held = held; length_is = ap length l; held_is = ap is_held is ∙ held_snoc true xs Released; list_is = l }

  extension_holds : (xs ys : Log) (a : ℕ) (cs : List T) → ys ≡ xs ++ Extended a cs ∷ [] → is_held xs ≡ true → IsExtension (written_by a cs) (shared_by xs) (shared_by ys)
  extension_holds xs ys a cs is held = let l : list_of ys ≡ list_of xs ++ written_by a cs = ap list_of is ∙ list_snoc xs (Extended a cs) in
      record { was_held = held; length_is = ap length l ∙ length-append (list_of xs) (written_by a cs); held_is = ap is_held is ∙ held_snoc true xs (Extended a cs); list_is = l }

  opening_holds : (xs ys : Log) (cs : List T) → ys ≡ xs ++ Cloned cs ∷ [] → is_held xs ≡ true → list_of xs ≡ [] → IsOpening (copied cs) (shared_by xs) (shared_by ys)
  opening_holds xs ys cs is held none = let l : list_of ys ≡ copied cs = ap list_of is ∙ (list_snoc xs (Cloned cs) ∙ ap (λ (z : List (Entry T)). z ++ copied cs) none) in
      record { was_held = held; was_empty = none; length_is = ap length l; held_is = ap is_held is ∙ held_snoc true xs (Cloned cs); list_is = l }

  -- ---- acquire
  module _ (is_new : List (Entry T) → Entry T → Type 0) (v : Log) (found : ℕ) (even : found % 2 ≡ 0) where
    abbrev AcquireGoes : List Cell → Log → Type 0
    AcquireGoes cs log = Goes (IsKept is_new) shown (IsStep {T = T} Acquired) 0 (v, (no_nib, None)) (λ n. either (n == found) (found + 1) n) (Acquires (step 0 found (found + 1) Acquired) (v, (no_nib, None))) cs log

    acquire_goes : (log : Log) → length (list_of log) < 2 ^ 62 → EachIsNew is_new (list_of log) → IsMade log → (b : Bool) → (word_of log == found) ≡ b → AcquireGoes ((word_of log, true) ∷ (0, true) ∷ []) log
    acquire_goes log tiny all_new made true is =
        let here : word_of log ≡ found = grind (arith, nat_tests) in
        let small = bit_small (is_held log) in
        let free : is_held log ≡ false = bit_none (is_held log) (omega arith) in
        let moved : IsStep Acquired log (log ++ Acquired ∷ []) log = (refl, (refl, acquire_holds log (log ++ Acquired ∷ []) refl free)) in
        let held : bit (is_held (log ++ Acquired ∷ [])) ≡ 1 = ap bit (held_snoc true log Acquired) in
        let len : length (list_of (log ++ Acquired ∷ [])) ≡ length (list_of log) = omega (arith, ap length (list_snoc log Acquired), length-append (list_of log) []) in
        let n : either (word_of log == found) (found + 1) (word_of log) ≡ word_of (log ++ Acquired ∷ []) = rw is (let z = ap bit free in omega arith) in (
          keeps,
          Acquired ∷ [],
          Some log,
          tt,
          record { words = ap (λ (k : ℕ). (k, true) ∷ (0, true) ∷ []) n; small = omega (arith, len, tiny); each_is_new = subst (EachIsNew is_new) (sym (list_snoc log Acquired ∙ append-nil (list_of log))) all_new; made = steps Acquired log log made moved },
          inr (log, refl, refl, moved),
          rw is (log, refl, refl, refl, free, tiny),
        )
    acquire_goes log tiny all_new made false is =
        let all : log ++ [] ≡ log = append-nil log in
        let n : either (word_of log == found) (found + 1) (word_of log) ≡ word_of (log ++ []) = rw is (ap word_of (sym all)) in (
          keeps,
          [],
          None,
          tt,
          record { words = ap (λ (k : ℕ). (k, true) ∷ (0, true) ∷ []) n; small = subst (λ (x : Log). length (list_of x) < 2 ^ 62) (sym all) tiny; each_is_new = subst (λ (x : Log). EachIsNew is_new (list_of x)) (sym all) all_new; made = subst (λ (x : Log). IsMade x) (sym all) made },
          inl (refl, all),
          rw is (ap word_of all),
        )

    pub acquire_moves : Moves (IsKept is_new) shown (IsStep {T = T} Acquired) 0 (v, (no_nib, None)) (λ n. either (n == found) (found + 1) n) (Acquires (step 0 found (found + 1) Acquired) (v, (no_nib, None)))
    acquire_moves cs log kept pre away = let P : List Cell → Type 0 = λ c. (0 < length c) × ((cell c 0).1 ≡ true) × AcquireGoes c log in
        subst P (sym kept.words) (omega arith, refl, acquire_goes log kept.small kept.each_is_new kept.made (word_of log == found) refl)

  -- ---- the end of a hold
  -- the items of a clone are published into an empty list alone
  abbrev pub MayFollow : Event T → List (Entry T) → Type 0
  MayFollow (Cloned cs) es = es ≡ []
  MayFollow Acquired es = Unit {0}
  MayFollow (Published x) es = Unit {0}
  MayFollow (Extended a cs) es = Unit {0}
  MayFollow Released es = Unit {0}
  MayFollow (OfferOf a n) es = Unit {0}

  empty_of_length : (es : List (Entry T)) → length es ≡ 0 → es ≡ []
  empty_of_length [] none = refl
  empty_of_length (e ∷ es) none = absurd (omega arith)

  -- what may follow a list may follow another that is as long
  may_follow : (e : Event T) (es fs : List (Entry T)) → length fs ≡ length es → MayFollow e es → MayFollow e fs
  may_follow (Cloned cs) es fs same none = let n : length es ≡ 0 = ap length none in empty_of_length fs (same ∙ n)
  may_follow Acquired es fs same may = tt
  may_follow (Published x) es fs same may = tt
  may_follow (Extended a cs) es fs same may = tt
  may_follow Released es fs same may = tt
  may_follow (OfferOf a n) es fs same may = tt

  is_step : (e : Event T) (xs ys r : Log) → begins_hold e ≡ false → plain e ≡ true → (r ≡ xs) × ((ys ≡ xs) ⊎ ((ys ≡ xs ++ e ∷ []) × (is_held xs ≡ true) × MayFollow e (list_of xs))) → IsStep e xs ys r
  is_step Acquired xs ys r ends pl m = absurd (cc ends)
  is_step (Published x) xs ys r ends pl m = (m.0, elim m.1 [ inl s ↦ inl s | inr t ↦ inr (t.0, publish_holds xs ys x t.0 t.1) ])
  is_step (Extended a cs) xs ys r ends pl m = (m.0, elim m.1 [ inl s ↦ inl s | inr t ↦ inr (t.0, extension_holds xs ys a cs t.0 t.1) ])
  is_step (Cloned cs) xs ys r ends pl m = (m.0, elim m.1 [ inl s ↦ inl s | inr t ↦ inr (t.0, opening_holds xs ys cs t.0 t.1 t.2) ])
  is_step Released xs ys r ends pl m = (m.0, elim m.1 [ inl s ↦ inl s | inr t ↦ inr (t.0, release_holds xs ys t.0 t.1) ])
  is_step (OfferOf a n) xs ys r ends pl m = absurd (cc pl)

  module _ (is_new : List (Entry T) → Entry T → Type 0) (v : Log) (e : Event T) (held after : ℕ) (ends : begins_hold e ≡ false) (pl : plain e ≡ true) (may : MayFollow e (list_of v)) (low : length (list_of (v ++ e ∷ [])) < 2 ^ 62) (holds : is_held v ≡ true) (was : held ≡ word_of v) (will : after ≡ word_of (v ++ e ∷ [])) (new : EachIsNew is_new (list_of v) → EachIsNew is_new (list_of v ++ entries e)) where
    abbrev EndGoes : List Cell → Log → Type 0
    EndGoes cs log = Goes (IsKept is_new) shown (IsStep e) 0 (v, (no_nib, None)) (λ n. either (n == held) after n) (EndsHold (step 0 held after e) (v, (no_nib, None))) cs log

    end_goes : (log : Log) → length (list_of log) < 2 ^ 62 → EachIsNew is_new (list_of log) → IsMade log → IsPrefix v log → (b : Bool) → (word_of log == held) ≡ b → EndGoes ((word_of log, true) ∷ (0, true) ∷ []) log
    end_goes log tiny all_new made pre true is =
        let here : word_of log ≡ held = grind (arith, nat_tests) in
        let one = ap bit holds in let small = bit_small (is_held log) in
        let on : is_held log ≡ true = bit_one (is_held log) (omega arith) in
        let wv = word_snoc v e ends in let wl = word_snoc log e ends in
        let lv : length (list_of (v ++ e ∷ [])) ≡ length (list_of v) + length (entries e) = ap length (list_snoc v e) ∙ length-append (list_of v) (entries e) in
        let ll : length (list_of (log ++ e ∷ [])) ≡ length (list_of log) + length (entries e) = ap length (list_snoc log e) ∙ length-append (list_of log) (entries e) in
        let same : length (list_of log) ≡ length (list_of v) = let z = ap bit on in omega (arith, here, was, one, z) in
        let whole : list_of v ≡ list_of log = prefix_whole (list_of v) (list_of log) (list_prefix v log pre) (omega (arith, same)) in
        let lists : list_of v ++ entries e ≡ list_of (log ++ e ∷ []) = ap (λ (l : List (Entry T)). l ++ entries e) whole ∙ sym (list_snoc log e) in
        let moved : IsStep e log (log ++ e ∷ []) log = is_step e log (log ++ e ∷ []) log ends pl (refl, inr (refl, on, may_follow e (list_of v) (list_of log) same may)) in
        let few : length (list_of (log ++ e ∷ [])) < 2 ^ 62 = omega (arith, lv, ll, low, here, was, one, small) in
        let n : either (word_of log == held) after (word_of log) ≡ word_of (log ++ e ∷ []) = rw is (let z = ap bit on in omega arith) in (
          keeps,
          e ∷ [],
          Some log,
          tt,
          record { words = ap (λ (k : ℕ). (k, true) ∷ (0, true) ∷ []) n; small = few; each_is_new = subst (EachIsNew is_new) lists (new (subst (EachIsNew is_new) (sym whole) all_new)); made = steps e log log made moved },
          inr (log, refl, refl, moved),
          (log, pre, refl, refl, rw is refl),
        )
    end_goes log tiny all_new made pre false is =
        let all : log ++ [] ≡ log = append-nil log in
        let n : either (word_of log == held) after (word_of log) ≡ word_of (log ++ []) = rw is (ap word_of (sym all)) in (
          keeps,
          [],
          Some log,
          tt,
          record { words = ap (λ (k : ℕ). (k, true) ∷ (0, true) ∷ []) n; small = subst (λ (x : Log). length (list_of x) < 2 ^ 62) (sym all) tiny; each_is_new = subst (λ (x : Log). EachIsNew is_new (list_of x)) (sym all) all_new; made = subst (λ (x : Log). IsMade x) (sym all) made },
          inr (log, refl, refl, is_step e log (log ++ []) log ends pl (refl, inl all)),
          (log, pre, refl, refl, rw is all),
        )

    pub end_moves : Moves (IsKept is_new) shown (IsStep e) 0 (v, (no_nib, None)) (λ n. either (n == held) after n) (EndsHold (step 0 held after e) (v, (no_nib, None)))
    end_moves cs log kept pre away = let P : List Cell → Type 0 = λ c. (0 < length c) × ((cell c 0).1 ≡ true) × EndGoes c log in
        subst P (sym kept.words) (omega arith, refl, end_goes log kept.small kept.each_is_new kept.made pre (word_of log == held) refl)

-- at equal numbers the first branch was taken
pub chosen : {A : Type 0} (B : Type 0) (m n : ℕ) → m ≡ n → MatchBool (m == n) A B → A
chosen {A} B m n e x = let is : (m == n) ≡ true = grind (arith, nat_tests) in subst (λ (b : Bool). MatchBool b A B) is x

module _ (T : Type 0) where
  pub ended : (v log new : List (Event T)) (e : Event T) (found held : ℕ) → IsPrefix v log → length log ≡ length v → word_of log ≡ found → held ≡ word_of v
      → MatchBool (found == held) (new ≡ log ++ e ∷ []) (new ≡ log) → new ≡ v ++ e ∷ []
  ended v log new e found held pre len was is then =
      let same : v ≡ log = prefix_whole v log pre (omega arith) in
      let w = ap word_of same in
      chosen (new ≡ log) found held (omega arith) then ∙ ap (λ (x : List (Event T)). x ++ e ∷ []) (sym same)
