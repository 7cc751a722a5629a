-- When a search may call its closure.
use Rattle.std.proofs.Common.{◌≡◌, ℕ, ◌+◌, ◌-◌, ◌/◌, ◌<◌, List, [], ◌∷◌, length, get_or, arith, refl, subst}
use Rattle.std.proofs.lemmas.Option.{slice_get_read}
use Rattle.std.specs.Fn.{Mut, Called, CalledAt, TakesAt, always_mut}
use Rattle.std.specs.declared.cmp.Ordering.{Ordering}
use Rattle.elsa_arena.specs.Search.{Call, CallableAtItems, Compares, MadeInTurn, SearchedTo}
use Rattle.elsa_arena.proofs.Narrowing.{Narrowed}
use denote.Param.Always.{mut_next}
use denote.Ref.{Bor}

-- A closure that may always be called may be called for the items of any list.
module _ {F B R : Type 0} (g : Mut F (B × Unit {0}) R) (items : List B) (start : F) where
  still : (calls : List (Call R)) (now : F) → MadeInTurn (λ p b r q. Called g p (b, tt) r q) items start calls now → always_mut g start → always_mut g now
  still [] now is h = subst (always_mut g) is h
  still (c ∷ cs) now (before, item, made, at, s) h = mut_next g before (item, tt) c.answer now now s refl (still cs before made h)

  -- A search may call a closure that may always be called.
  pub always_callable_at_items : always_mut g start → CallableAtItems (λ p b r q. Called g p (b, tt) r q) (λ p b. g.pre p (b, tt)) items start
  always_callable_at_items h = λ calls now index item made at. ((still calls now made h).at ((item, tt) ∷ [])).0

-- The same of a closure that is called with references to the items.
module _ {F T R : Type 0} (g : Mut F (Bor T × Unit {0}) R) (items : List T) (start : F) where
  still_at : (calls : List (Call R)) (now : F) → MadeInTurn (CalledAt g) items start calls now → always_mut g start → always_mut g now
  still_at [] now is h = subst (always_mut g) is h
  still_at (c ∷ cs) now (before, item, made, at, s) h = mut_next g before (s.shown, tt) c.answer now now s.called refl (still_at cs before made h)

  pub always_callable_at_refs : always_mut g start → CallableAtItems (CalledAt g) (TakesAt g) items start
  always_callable_at_refs h = λ calls now index item made at y shows. ((still_at calls now made h).at ((y, tt) ∷ [])).0

-- Calls whose keys were compared are calls that return the keys.
module _ {F B K : Type 0} (cmp : K → K → Ordering) (key : K) (step : F → B → K → F → Type 0) (items : List B) (start : F) where
  keyed : (calls : List (Call Ordering)) (now : F) → MadeInTurn (Compares cmp key step) items start calls now → (keys : List (Call K)) × MadeInTurn step items start keys now
  keyed [] now is = ([], is)
  keyed (c ∷ cs) now (before, item, made, at, (k, s, is)) =
      let earlier = keyed cs before made in
      (record { index = c.index; answer = k } ∷ earlier.0, (before, item, earlier.1, at, s))

  -- If a search may call a closure that returns keys, it may call it and compare the keys.
  pub callable_by_key : (accepts : F → B → Type 0) → CallableAtItems step accepts items start → CallableAtItems (Compares cmp key step) accepts items start
  callable_by_key accepts callable = λ calls now index item made at. let k = keyed calls now made in callable k.0 now index item k.1 at

-- A search may call its closure for the middle of a range that is not empty.
pub callable_at_middle : {F B R : Type 0} (step : F → B → R → F → Type 0) (accepts : F → B → Type 0) (low high : R) (items : List B) (start now : F) (l r : ℕ) (item : B)
    → CallableAtItems step accepts items start → SearchedTo step items start now (Narrowed low high (length items) l r) → l < r → item ≡ get_or items (l + (r - l) / 2) item → accepts now item
callable_at_middle step accepts low high items start now l r item callable known open_range read =
    callable known.0.calls now (l + (r - l) / 2) item (subst (MadeInTurn step items start known.0.calls) known.1 known.0.in_turn)
    (slice_get_read items (length items) (l + (r - l) / 2) item refl (omega (arith, open_range, known.0.bracket.within)) read)
