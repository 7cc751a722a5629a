use Rattle.std.proofs.Common.{◌+◌, length, drop, vec_items, arith, ap, sym, ◌∙◌}
use Rattle.std.proofs.lemmas.List.{length-drop}
use Rattle.elsa_cell.specs.Ordered.{joined, rank_of}
use Rattle.elsa_cell.proofs.WalkLemmas.{length_picked, low_left}
use Rattle.elsa_cell.proofs.ordered.AscendingIterator.size_hint.Goals as goal

pub returns-clause-lower : goal.returns-clause-lower
returns-clause-lower g c _ =
    let it = c.self.inside in let order = joined vec_items it.blocks.now in let rank = rank_of vec_items it.blocks.now it.at + it.next in
    let e = sym (ap length c.self.view_is) ∙ length_picked it.observed.seen (drop rank order) (low_left (length it.observed.seen) rank order c.self.invariant.1) in
    let d = length-drop rank order in let left = c.self.invariant.0.counted in omega (arith, e, d, left)

pub returns-clause-upper : goal.returns-clause-upper
returns-clause-upper g c =
    let it = c.self.inside in let order = joined vec_items it.blocks.now in let rank = rank_of vec_items it.blocks.now it.at + it.next in
    let e = sym (ap length c.self.view_is) ∙ length_picked it.observed.seen (drop rank order) (low_left (length it.observed.seen) rank order c.self.invariant.1) in
    let d = length-drop rank order in let left = c.self.invariant.0.counted in (tt, omega (arith, e, d, left))
