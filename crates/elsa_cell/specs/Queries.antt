-- What follows from a total order for a query that compares as one of its keys does.
use Rattle.std.specs.Prelude.{◌≡◌}
use Rattle.std.specs.declared.cmp.Ordering.{Ordering}
use Rattle.std.specs.declared.cmp.Ordering.TheVariants.{Less, Equal, Greater}
use Rattle.std.specs.Cmp.{IsTotalOrder}
use Rattle.std.proofs.Common.{ap, ◌∙◌}
use Rattle.std.specs.Ordering.{ordering_reverse}

module _ {K : Type 0} {cmp : K → K → Ordering} (total : IsTotalOrder cmp) where
  -- The other way round.
  pub turned_less : (x y : K) → cmp x y ≡ Less → cmp y x ≡ Greater
  turned_less x y less = total.antisymm y x ∙ ap ordering_reverse less

  pub turned_greater : (x y : K) → cmp x y ≡ Greater → cmp y x ≡ Less
  turned_greater x y greater = total.antisymm y x ∙ ap ordering_reverse greater

  pub higher_stays : (q x y : K) → cmp x y ≡ Less → cmp q x ≡ Less → cmp q y ≡ Less
  higher_stays q x y less below = total.trans q x y below less

  pub lower_stays : (q x y : K) → cmp x y ≡ Less → cmp q y ≡ Greater → cmp q x ≡ Greater
  lower_stays q x y less above = turned_less x q (total.trans x y q less (turned_greater q y above))

  pub equal_alike : (q x y : K) → cmp q x ≡ Equal → cmp q y ≡ cmp x y
  equal_alike q x y equal = total.congr q x y equal
