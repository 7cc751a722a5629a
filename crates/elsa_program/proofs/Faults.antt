-- The first of several faults.
use Rattle.std.proofs.Common.{◌≡◌, ◌≤◌, ◌<◌, ◌⊎◌, inl, inr, Contains, IfSome, List, [], ◌∷◌, ◌++◌, Option, Some, None, arith, subst, sym}
use Rattle.std.proofs.lemmas.List.Elements.{All-push, All-weaker, Contains-append_left, Contains-push, Contains-push_cases}
use Rattle.elsa_program.specs.declared.shared.SharedFault.{SharedFault}
use Rattle.elsa_program.specs.Workers.{IsFirstFault, rank}

abbrev Fault : Type 0
Fault = Option SharedFault

-- The other fault, if there is one, doesn't precede this one in the order.
abbrev IsBehind : SharedFault → Fault → Type 0
IsBehind fault other = IfSome other (λ f. rank fault ≤ rank f)

goes_on : (fault later : SharedFault) (other : Fault) → rank fault ≤ rank later → IsBehind later other → IsBehind fault other
goes_on fault later None before behind = tt
goes_on fault later (Some f) before behind = omega arith

-- Each item of a list of one item is that item.
the_one : (x y : Fault) → Contains (x ∷ []) y → x ≡ y
the_one x y has = elim (Contains-push_cases [] x y has) [ inl none ↦ absurd (let h : none.0 < 0 = none.1 in omega arith) | inr is ↦ is ]

-- Each item of a list of two items is one of the two.
one_of_two : (a x y : Fault) → Contains (a ∷ x ∷ []) y → (a ≡ y) ⊎ (x ≡ y)
one_of_two a x y has = elim (Contains-push_cases (a ∷ []) x y has) [ inl first ↦ inl (the_one a y first) | inr is ↦ inr is ]

-- The first fault after another fault was appended.
pub first_more : (xs : List Fault) (a x b : Fault) → IsFirstFault xs a → IsFirstFault (a ∷ x ∷ []) b → IsFirstFault (xs ++ x ∷ []) b
first_more xs a x None was both =
    let none : a ≡ None = both 0 None (omega arith) in
    All-push (λ (o : Fault). o ≡ None) xs x (let h = subst (IsFirstFault xs) none was in h) (both 1 None (omega arith))
first_more xs None x (Some f) was (has, least) =
    let is : x ≡ Some f = elim (one_of_two None x (Some f) has) [ inl none ↦ cc | inr it ↦ it ] in (
      subst (λ (y : Fault). Contains (xs ++ x ∷ []) y) is (Contains-push xs x),
      All-push (IsBehind f) xs x (All-weaker (λ (o : Fault). o ≡ None) (IsBehind f) (λ o none. subst (IsBehind f) (sym none) tt) xs was) (least 1 None (omega arith)),
    )
first_more xs (Some e) x (Some f) (had, least_of) (has, least) =
    let before : rank f ≤ rank e = least 0 None (omega arith) in (
      elim (one_of_two (Some e) x (Some f) has) [
        | inl is ↦ Contains-append_left xs (x ∷ []) (Some f) (subst (Contains xs) is had)
        | inr is ↦ subst (λ (y : Fault). Contains (xs ++ x ∷ []) y) is (Contains-push xs x)
      ],
      All-push (IsBehind f) xs x (All-weaker (IsBehind e) (IsBehind f) (λ o behind. goes_on f e o before behind) xs least_of) (least 1 None (omega arith)),
    )
