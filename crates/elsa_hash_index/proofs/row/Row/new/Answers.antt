use Rattle.std.proofs.Common.{◌≡◌, ap, ◌∙◌, arith, length-append}
use Rattle.elsa_hash_index.proofs.RowLemmas.{named, named_more}
use Rattle.elsa_hash_index.proofs.row.Row.new.Goals as goal

pub loop-preserved : goal.loop-preserved
loop-preserved g c =
    let inv = c.loop.invariant in
    let rest = c.take-pen.ensures.rest in
    let pen = c.take-pen.ensures.pen in
    let b = c.open_row-first.result.0.book in
    let nib = ap (λ n. n.key) pen.1 in
    let made : c.tracked.result ≡ named b c.loop.pens.next = c.tracked.ensures.0 ∙ (ap (λ k. named c.take-pen.result.book k) nib ∙ ap (λ n. named n c.loop.pens.next) (pen.0 ∙ inv.0)) in
    let next = rest.1 in let left = rest.2 in let i1 = inv.1 in let i2 = inv.2 in let i4 = inv.4 in let i5 = inv.5 in let lt = c.loop-test.true in
    let items = c.push_reserved.ensures.items in
    let capacity = c.push_reserved.ensures.capacity in (
      rest.0 ∙ inv.0,
      omega (arith, next, i1),
      omega (arith, left, i2, lt),
      items ∙ named_more b c.loop.counter c.loop.pens.next c.loop.words.items c.tracked.result inv.3 made inv.1,
      grind (arith, items, i4, length-append),
      omega (arith, capacity, i5),
    )
