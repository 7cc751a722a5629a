-- What holds of a list and its prefix.
use Rattle.std.proofs.Common.{◌≤◌, List, length, length-append, ap, arith}
use mathlib.Core.List.{IsPrefix}

-- a prefix is no longer than its list
pub prefix_within : {X : Type 0} (xs ys : List X) → IsPrefix xs ys → length xs ≤ length ys
prefix_within xs ys p = let e = ap length p.1 in let l = length-append xs p.0 in omega (arith, e, l)
