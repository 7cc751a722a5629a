-- What the state under a lock says of its entries, where they obey a rule.
use Rattle.std.proofs.Common.{◌≡◌, ◌∙◌, ap, sym, subst, refl, Bool, true, false, IsTrue, ◌↔◌, List, Option, Some, None, is_some, Result, Ok, Err, IfOk, IfSome, OnErr, rules}
use Rattle.std.specs.Cmp.{IsEquivalence}
use Rattle.std.specs.Option.{option_map, UnwrapsOrElse}
use Rattle.std.specs.Map.{lookup}
use Rattle.elsa_tables.specs.FirstWins.{value_at}
use Rattle.elsa_locks.specs.Shared.{Leaves}
use Rattle.elsa_tables.specs.Rules.{HoldsAt, IsKept}
use Rattle.elsa_tables.proofs.RuleLemmas.{found_holds, inserted_kept, same_kept}

-- What holds of each value that may be found holds of what was found.
pub found_some : {V W : Type 0} (h : W → V) (P : V → Type 0) (at : Option V) → ((v : V) → at ≡ Some v → P v) → (a : Option W) → option_map h a ≡ at → IfSome a (λ w. P (h w))
found_some h P at all None is = tt
found_some h P at all (Some w) is = all (h w) (sym is)

pub found_ok : {V W E : Type 0} (h : W → V) (P : V → Type 0) (at : Option V) → ((v : V) → at ≡ Some v → P v) → (r : Result (Option W) E)
    → IfOk r (λ a. option_map h a ≡ at) → IfOk r (λ a. IfSome a (λ w. P (h w)))
found_ok h P at all (Err e) is = tt
found_ok h P at all (Ok a) is = found_some h P at all a is

pub found_copy : {V : Type 0} (P : V → Type 0) (at : Option V) → ((v : V) → at ≡ Some v → P v) → (a : Option V) → a ≡ at → IfSome a P
found_copy P at all None is = tt
found_copy P at all (Some w) is = all w (sym is)

takes_some : {V : Type 0} (P Q : V → Type 0) (at : Option V) → ((v : V) → at ≡ Some v → P v) → ((v : V) → P v → Q v) → IfSome at Q
takes_some P Q None all to = tt
takes_some P Q (Some v) all to = to v (all v refl)

-- A closure may be called with what is found, if it may be called with each value that holds.
pub may_call : {V : Type 0} (P Q : V → Type 0) (at : Option V) → ((v : V) → at ≡ Some v → P v) → ((v : V) → P v → Q v) → IfSome at Q
may_call P Q at all to = takes_some P Q at all to

called_some : {V X : Type 0} (P : V → Type 0) (C : V → X → Type 0) (at : Option V) → ((v : V) → at ≡ Some v → P v) → (x : X)
    → IfSome at (λ v. C v x) → true ≡ is_some at → (v : V) × P v × C v x
called_some P C None all x does there = search (rules, there)
called_some P C (Some v) all x does there = (v, all v refl, does)

-- A closure that was called with what was found was called with a value that holds.
pub was_called : {V X : Type 0} (P : V → Type 0) (C : V → X → Type 0) (at : Option V) → ((v : V) → at ≡ Some v → P v) → (r : Option X)
    → IfSome r (λ x. IfSome at (λ v. C v x)) → is_some r ≡ is_some at → IfSome r (λ x. (v : V) × P v × C v x)
was_called P C at all None does there = tt
was_called P C at all (Some x) does there = called_some P C at all x does there

made_holds : {V : Type 0} (P Q : V → Type 0) (at : Option V) (v : V) → UnwrapsOrElse at P v → ((w : V) → P w → Q w) → at ≡ None → Q v
made_holds P Q None v is to gone = to v is
made_holds P Q (Some x) v is to gone = search (rules, gone)

-- An insertion keeps the rule, whether it succeeds or fails.
pub after_insertion : {K V W E : Type 0} (same : K → K → Bool) → IsEquivalence same → (holds : K → V → Type 0) (old new : List (K × V)) → IsKept same holds old
    → (key : K) (P : V → Type 0) → ((w : V) → P w → holds key w) → (val : W → V) (r : Result W E)
    → IfOk r (λ w. UnwrapsOrElse (value_at same old key) P (val w)) → IfOk r (λ w. Leaves same old key (val w) new) → OnErr r (new ≡ old) → IsKept same holds new
after_insertion same equiv holds old new kept key P to val (Ok w) answer content refused =
    inserted_kept same equiv holds old new kept key (val w) (made_holds P (holds key) (lookup (same key) old) (val w) answer to) content.2
after_insertion same equiv holds old new kept key P to val (Err e) answer content refused = subst (IsKept same holds) (sym refused) kept

-- What the key then has holds.
pub has_ok : {K V W E : Type 0} (same : K → K → Bool) (holds : K → V → Type 0) (new : List (K × V)) → IsKept same holds new → (key : K) (val : W → V) (r : Result W E)
    → IfOk r (λ w. value_at same new key ≡ Some (val w)) → IfOk r (λ w. HoldsAt holds (same key) (val w))
has_ok same holds new kept key val (Ok w) is = kept key (val w) is
has_ok same holds new kept key val (Err e) is = tt

made_some : {V : Type 0} (P : V → Type 0) (at : Option V) (v : V) → UnwrapsOrElse at P v → at ≡ None → P v
made_some P None v is gone = is
made_some P (Some x) v is gone = search (rules, gone)

-- A value that is new is the closure's.
pub made_ok : {V W E : Type 0} (P : V → Type 0) (at : Option V) (val : W → V) (new : W → Bool) (r : Result W E)
    → IfOk r (λ w. UnwrapsOrElse at P (val w)) → IfOk r (λ w. IsTrue (new w) ↔ (at ≡ None)) → IfOk r (λ w. new w ≡ true → P (val w))
made_ok P at val new (Ok w) answer is_new = λ is. made_some P at (val w) answer (is_new.0 (search (rules, is)))
made_ok P at val new (Err e) answer is_new = tt

pub err_first : {A E : Type 0} (X Y : Type 0) (r : Result A E) → OnErr r (X × Y) → OnErr r X
err_first X Y (Ok a) h = tt
err_first X Y (Err e) h = h.0
