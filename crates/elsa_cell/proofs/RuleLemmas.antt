-- What the rule of a map says of what its calls return.
use Rattle.std.proofs.Common.{◌≡◌, ℕ, suc, inl, inr, Bool, true, false, cond, List, [], ◌∷◌, Option, Some, Result, Ok, Err, IfOk, refl, sym, subst, rules}
use Rattle.std.proofs.lemmas.Option.{same_Some}
use Rattle.std.specs.Map.{lookup}
use Rattle.elsa_cell.specs.Entries.{GetsOrInserts, HoldsAtOrMade, HoldsEach, Inserts, pairs_of}
use Rattle.elsa_cell.specs.declared.map.Entry.{Entry}
use Rattle.elsa_tables.specs.Rules.{HoldsAt}

module _ {K V : Type 0} (holds : K → V → Type 0) where
  step : (test : K → Bool) (b : Bool) (k : K) (v w : V) (rest : Option V) → test k ≡ b → holds k v → (rest ≡ Some w → HoldsAt holds test w) → cond b (Some v) rest ≡ Some w → HoldsAt holds test w
  step test true k v w rest passes held later is = (k, passes, subst (holds k) (same_Some v w is) held)
  step test false k v w rest fails held later is = later is

  -- What a look-up finds holds for a key that it finds.
  pub found_holds : (test : K → Bool) (es : List (Entry K V)) (w : V) → HoldsEach holds es → lookup test (pairs_of es) ≡ Some w → HoldsAt holds test w
  found_holds test [] w each is = search (rules, is)
  found_holds test (e ∷ es) w each is = step test (test e.key) e.key e.value w (lookup test (pairs_of es)) refl (each 0 e refl) (found_holds test es w (λ i x at. each (suc i) x at)) is

  module _ (equal : K → K → Bool) (reflexive : (k : K) → equal k k ≡ true) where
    -- So does what a key has after an insertion.
    pub inserted_holds : (old new : List (Entry K V)) (key : K) (value kept : V) (index : ℕ) (is_new : Bool) → HoldsEach holds new → (is_new ≡ true → holds key value) → Inserts equal old new key value kept index is_new → HoldsAt holds (equal key) kept
    inserted_holds old new key value kept index true each held i = (key, reflexive key, subst (holds key) (sym i.2) (held refl))
    inserted_holds old new key value kept index false each held i = found_holds (equal key) new kept each (subst (λ es. lookup (equal key) (pairs_of es) ≡ Some kept) (sym i.2) i.0)

    -- The same of an insertion after a look-up.
    pub got_holds : (test : K → Bool) (made : K → V → Type 0) (before after : List (Entry K V)) (kept : V) (index : ℕ) (is_new : Bool) → HoldsEach holds after → ((k : K) (v : V) → made k v → holds k v)
        → GetsOrInserts equal test made before after kept index is_new → HoldsAtOrMade equal test made holds kept
    got_holds test made before after kept index is_new each held (inl found) = inl (found_holds test after kept each found.1)
    got_holds test made before after kept index is_new each held (inr (k, v, was_made, i)) =
        inr (k, v, was_made, inserted_holds i.0 after k v kept index is_new each (λ _. held k v was_made) i.2)

-- Two facts of a success give a third.
pub ok_of_both : {T E : Type 0} (r : Result T E) (P Q S : T → Type 0) → ((x : T) → P x → Q x → S x) → IfOk r P → IfOk r Q → IfOk r S
ok_of_both (Ok x) P Q S both p q = both x p q
ok_of_both (Err e) P Q S both p q = tt
