use Rattle.std.proofs.Common.{◌++◌, [], ◌∷◌, vec_items, refl, arith, ap, ◌∙◌}
use Rattle.elsa_cell.proofs.ordered.Ordered.open.Goals as goal

pub returns-clause-first : goal.returns-clause-first
returns-clause-first g c =
    let first = c.in_ok-first.first in let room = c.in_ok-first.ensures.capacity in
    (first, c.push_reserved.ensures.items ∙ ap (λ l. l ++ first ∷ []) (ap vec_items c.new_block.ensures.same.0 ∙ (c.in_ok-reserve.ensures.items ∙ c.requires)), refl, c.in_ok-first.ensures.items, omega (arith, room))
