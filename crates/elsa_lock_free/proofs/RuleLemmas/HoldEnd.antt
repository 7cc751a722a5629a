-- What a step means for the list and for the pass.
use Rattle.std.proofs.Common.{◌≡◌, ℕ, suc, ◌+◌, ◌*◌, ◌≤◌, ◌==◌, true, List, [], ◌∷◌, ◌++◌, length, refl, ap, sym, ◌∙◌, subst, arith, MatchBool}
use Rattle.std.proofs.lemmas.List.{append-nil}
use Rattle.std.proofs.lemmas.Bool.Decides.{nat_tests}
use mathlib.Core.List.{IsPrefix}
use Rattle.elsa_lock_free.specs.declared.event.Entry.{Entry}
use Rattle.elsa_lock_free.specs.declared.event.Event.{Event}
use Rattle.elsa_lock_free.specs.declared.event.Event.TheVariants.{Acquired, Published, Extended, Released, OfferOf}
use Rattle.elsa_lock_free.specs.SharedList.{written_by, bit, count}
use Rattle.elsa_lock_free.specs.History.{list_of, is_held, others}
use Rattle.elsa_lock_free.specs.Rights.{OnlyPushed}
use Rattle.elsa_lock_free.specs.OneWord.{word_of}
use Rattle.elsa_lock_free.proofs.RuleLemmas.History.{written_by_length, list_snoc, count_append, count_snoc, prefix_whole, count_prefix}
use Rattle.elsa_lock_free.proofs.RuleLemmas.Steps.{ended, word_snoc}

module _ {T : Type 0} where
  pub held_word : (v : List (Event T)) (n : ℕ) → n ≡ length (list_of v) → is_held v ≡ true → 2 * n + 1 ≡ word_of v
  held_word v n e h = let b = ap bit h in omega (arith, e, b)

  pub released_word : (v : List (Event T)) (n : ℕ) → n ≡ length (list_of v) → 2 * n ≡ word_of (v ++ Released ∷ [])
  released_word v n e = let w = word_snoc T v Released refl in omega (arith, w, e)

  pub published_word : (v : List (Event T)) (n : ℕ) (x : Entry T) → n ≡ length (list_of v) → 2 * n + 2 ≡ word_of (v ++ Published x ∷ [])
  published_word v n x e = let w = word_snoc T v (Published x) refl in omega (arith, w, e)

  pub released_list : (v new : List (Event T)) → new ≡ v ++ Released ∷ [] → list_of new ≡ list_of v
  released_list v new e = ap list_of e ∙ (list_snoc v Released ∙ append-nil (list_of v))

  pub acquired_list : (v new : List (Event T)) → new ≡ v ++ Acquired ∷ [] → list_of new ≡ list_of v
  acquired_list v new e = ap list_of e ∙ (list_snoc v Acquired ∙ append-nil (list_of v))

  pub published_list : (v new : List (Event T)) (x : Entry T) → new ≡ v ++ Published x ∷ [] → list_of new ≡ list_of v ++ x ∷ []
  published_list v new x e = ap list_of e ∙ list_snoc v (Published x)

  pub published_count : (a : ℕ) (es : List (Entry T)) (x : Entry T) → x.writer ≡ a → count a (es ++ x ∷ []) ≡ suc (count a es)
  published_count a es x e = let h = count_snoc a es x in let is : (x.writer == a) ≡ true = grind (arith, nat_tests) in let b = ap bit is in omega (arith, h, b)

  pub extended_word : (v : List (Event T)) (n a : ℕ) (cs : List T) → n ≡ length (list_of v) → 2 * (n + length cs) ≡ word_of (v ++ Extended a cs ∷ [])
  extended_word v n a cs e = let w = word_snoc T v (Extended a cs) refl in let l = written_by_length a cs in omega (arith, w, e, l)

  pub extended_list : (v new : List (Event T)) (a : ℕ) (cs : List T) → new ≡ v ++ Extended a cs ∷ [] → list_of new ≡ list_of v ++ written_by a cs
  extended_list v new a cs e = ap list_of e ∙ list_snoc v (Extended a cs)

  -- the number of a writer's entries in its own items is their number
  all_its_own : (a : ℕ) (cs : List T) → count a (written_by a cs) ≡ length cs
  all_its_own a [] = refl
  all_its_own a (c ∷ cs) = let is : (a == a) ≡ true = grind (arith, nat_tests) in let b = ap bit is in let h = all_its_own a cs in omega (arith, b, h)

  pub extended_count : (a : ℕ) (es : List (Entry T)) (cs : List T) → count a (es ++ written_by a cs) ≡ count a es + length cs
  extended_count a es cs = let h = count_append a es (written_by a cs) in let k = all_its_own a cs in omega (arith, h, k)

  pub exchange_was_at_known_history : (v log ans new : List (Event T)) (e : Event T) (found held a n : ℕ) (about : List (Event T)) → IsPrefix v log → word_of log ≡ found → held ≡ word_of v
      → MatchBool (found == held) (new ≡ log ++ e ∷ []) (new ≡ log) → about ≡ OfferOf a n ∷ v → ans ≡ log → length ans ≡ length (others about) → OnlyPushed about ans
      → (new ≡ v ++ e ∷ []) × (count (suc a) (list_of v) ≤ n)
  exchange_was_at_known_history v log ans new e found held a n about pre is was then ab same len cnt =
      let l1 : length (others about) ≡ length v = ap (λ (l : List (Event T)). length (others l)) ab in
      let l2 : length log ≡ length v = sym (ap length same) ∙ (len ∙ l1) in
      let s : v ≡ log = prefix_whole v log pre (omega (arith, l2)) in
      let c1 : count (suc a) (list_of ans) ≤ n = subst (λ (l : List (Event T)). OnlyPushed l ans) ab cnt in
      let c2 : count (suc a) (list_of v) ≤ n = subst (λ (l : List (Event T)). count (suc a) (list_of l) ≤ n) (same ∙ sym s) c1 in
      (ended T v log new e found held pre l2 is was then, c2)

  -- the same for an offer that has the number of its entries before the history
  pub exchange_of_many : (v log ans new : List (Event T)) (e : Event T) (found held a n : ℕ) (about : List (Event T)) → IsPrefix v log → word_of log ≡ found → held ≡ word_of v
      → MatchBool (found == held) (new ≡ log ++ e ∷ []) (new ≡ log) → about ≡ OfferOf a n ∷ e ∷ v → ans ≡ log → length ans ≡ length (others (others about)) → OnlyPushed about ans
      → (new ≡ v ++ e ∷ []) × (count (suc a) (list_of v) ≤ n)
  exchange_of_many v log ans new e found held a n about pre is was then ab same len cnt =
      exchange_was_at_known_history v log ans new e found held a n (OfferOf a n ∷ v) pre is was then refl same (len ∙ ap (λ (l : List (Event T)). length (others (others l))) ab) (subst (λ (l : List (Event T)). OnlyPushed l ans) ab cnt)

  pub read_mine : (v log ans : List (Event T)) (a n : ℕ) (about : List (Event T)) → IsPrefix v log → ans ≡ log → about ≡ OfferOf a n ∷ [] → count (suc a) (list_of v) ≡ n → OnlyPushed about ans → count (suc a) (list_of log) ≡ n
  read_mine v log ans a n about pre same ab was cnt =
      let c1 : count (suc a) (list_of ans) ≤ n = subst (λ (l : List (Event T)). OnlyPushed l ans) ab cnt in
      let c2 : count (suc a) (list_of log) ≤ n = subst (λ (l : List (Event T)). count (suc a) (list_of l) ≤ n) same c1 in
      let c3 = count_prefix (suc a) v log pre in omega (arith, c2, c3, was)
