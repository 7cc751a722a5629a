use Rattle.std.proofs.Common.{◌≡◌, ◌+◌, ◌-◌, ◌<◌, ◌∷◌, Some, drop, length, slice_get, slice_index_or, vec_items, arith, ap, refl, subst, sym, ◌∙◌, inl, inr}
use Rattle.std.proofs.lemmas.Bool.{cases_lt}
use Rattle.std.proofs.lemmas.Option.{get_or_from_slice_get, slice_get-get_or}
use Rattle.elsa_cell.specs.Ordered.{IsWalkAt, joined, picked, rank_of}
use Rattle.elsa_cell.proofs.BlockLemmas.{get_joined, positive, rank_next, walk_past, walk_within}
use Rattle.elsa_cell.proofs.WalkLemmas.{next_picked}
use Rattle.elsa_cell.proofs.ordered.AscendingIterator.next.Goals as goal

pub item-entry-requires : goal.item-entry-requires
item-entry-requires g c =
    let it = c.self.inside in let blocks = it.blocks.now in let v = c.index-self-self.result in let walk = c.self.invariant.0 in
    let some = positive it.left it.left refl c.if-self-eq0.false in let here = walk.there some in
    let b = here.0 in let there = here.1 in let low = here.2 in let order = c.as_slice-block.result.now in
    let same = c.as_slice-block.ensures.value ∙ ap vec_items (get_or_from_slice_get blocks it.at b v there) in let long = ap length same in
    let i = slice_index_or order it.next 0 in
    let has = get_joined vec_items blocks it.at b it.next i there (subst (λ l. slice_get l it.next ≡ Some i) same (slice_get-get_or order it.next 0 (omega (arith, low, long)))) in
    record { seen = c.self.invariant.1 (rank_of vec_items blocks it.at + it.next) i has }

pub next_position-at-requires-clause-position : goal.next_position-at-requires-clause-position
next_position-at-requires-clause-position g c =
    let it = c.self.inside in let blocks = it.blocks.now in let v = c.index-self-self.result in let walk = c.self.invariant.0 in
    let some = positive it.left it.left refl c.if-self-eq0.false in let here = walk.there some in
    let b = here.0 in let there = here.1 in let low = here.2 in let order = c.as_slice-block.result.now in
    let same = c.as_slice-block.ensures.value ∙ ap vec_items (get_or_from_slice_get blocks it.at b v there) in let long = ap length same in
    let i = slice_index_or order it.next 0 in
    let has = get_joined vec_items blocks it.at b it.next i there (subst (λ l. slice_get l it.next ≡ Some i) same (slice_get-get_or order it.next 0 (omega (arith, low, long)))) in
    omega (arith, low, long)

pub invariant_of-self : goal.invariant_of-self
invariant_of-self g c =
    let it = c.self.inside in let blocks = it.blocks.now in let v = c.index-self-self.result in let walk = c.self.invariant.0 in
    let some = positive it.left it.left refl c.if-self-eq0.false in let here = walk.there some in
    let b = here.0 in let there = here.1 in let low = here.2 in let order = c.as_slice-block.result.now in
    let same = c.as_slice-block.ensures.value ∙ ap vec_items (get_or_from_slice_get blocks it.at b v there) in let long = ap length same in
    let i = slice_index_or order it.next 0 in
    let has = get_joined vec_items blocks it.at b it.next i there (subst (λ l. slice_get l it.next ≡ Some i) same (slice_get-get_or order it.next 0 (omega (arith, low, long)))) in (
      elim (cases_lt (it.next + 1) (length b.items)) [
        | inl more ↦ subst (λ e. IsWalkAt vec_items blocks e.0 e.1 (it.left - 1)) (sym (c.next_position-at.ensures.within (omega (arith, more, long)))) (walk_within vec_items blocks it.at it.next it.left b walk there more some)
        | inr all ↦
            let end : it.next + 1 ≡ length b.items = omega (arith, all, low) in
            subst (λ e. IsWalkAt vec_items blocks e.0 e.1 (it.left - 1)) (sym (c.next_position-at.ensures.past (omega (arith, end, long)))) (walk_past vec_items blocks it.at it.next it.left b walk there end some)
      ],
      c.self.invariant.1,
    )

pub returns-clause-steps : goal.returns-clause-steps
returns-clause-steps g c =
    let it = c.self.inside in let blocks = it.blocks.now in let v = c.index-self-self.result in let walk = c.self.invariant.0 in
    let some = positive it.left it.left refl c.if-self-eq0.false in let here = walk.there some in
    let b = here.0 in let there = here.1 in let low = here.2 in let order = c.as_slice-block.result.now in
    let same = c.as_slice-block.ensures.value ∙ ap vec_items (get_or_from_slice_get blocks it.at b v there) in let long = ap length same in
    let i = slice_index_or order it.next 0 in
    let has = get_joined vec_items blocks it.at b it.next i there (subst (λ l. slice_get l it.next ≡ Some i) same (slice_get-get_or order it.next 0 (omega (arith, low, long)))) in
    let table = joined vec_items blocks in let seen = it.observed.seen in let rank = rank_of vec_items blocks it.at + it.next in
    let moved : rank_of vec_items blocks c.next_position-at.result.0 + c.next_position-at.result.1 ≡ rank + 1 = elim (cases_lt (it.next + 1) (length b.items)) [
      | inl more ↦ ap (λ e. rank_of vec_items blocks e.0 + e.1) (c.next_position-at.ensures.within (omega (arith, more, long))) ∙ (let e : rank_of vec_items blocks it.at + (it.next + 1) ≡ rank + 1 = omega arith in e)
      | inr all ↦
          let end : it.next + 1 ≡ length b.items = omega (arith, all, low) in
          let next = rank_next vec_items blocks it.at b there in
          ap (λ e. rank_of vec_items blocks e.0 + e.1) (c.next_position-at.ensures.past (omega (arith, end, long))) ∙ (let e : rank_of vec_items blocks (it.at + 1) + 0 ≡ rank + 1 = omega (arith, end, next) in e)
    ] in
    sym c.self.view_is ∙ (next_picked seen table rank i c.item-entry.result.now has c.item-entry.ensures.item ∙ ap (λ n. c.item-entry.result.now ∷ picked seen (drop n table)) (sym moved))

pub returns-clause-goes : goal.returns-clause-goes
returns-clause-goes g c =
    let e = ap length (returns-clause-steps g c) in
    record {
      on = λ _. (tt, tt, omega (arith, e));
      keeps = tt;
      rests = λ _. tt;
    }
