use Rattle.std.proofs.Common.{◌+◌, ◌*◌, ◌^◌, ◌%◌, ap, sym, ◌∙◌}
use Rattle.elsa_hash_index.specs.Row.{bits_of, digit}
use Rattle.elsa_hash_index.proofs.DigitLemmas.{digit_is, sum_is}
use Rattle.elsa_hash_index.proofs.RowLemmas.{prefix_prefix}
use Rattle.elsa_hash_index.proofs.row.RowView.set.Goals as goal

pub exchange-requires-clause-sum : goal.exchange-requires-clause-sum
exchange-requires-clause-sum g c =
    let bits = bits_of c.args.self.now.row.now.count c.args.word in
    let same = ap (λ r. bits_of r.count c.args.word) (c.load_word-old.ensures.same.0 ∙ c.loop.invariant.0) in
    let old = c.load_word-old.result in
    let x = c.args.value in
    let j = c.args.j in
    sum_is bits j c.args.shift c.args.base old x c.requires.shifted c.requires.based.0 c.if-old-shift-ne0.false c.requires.fits.1 c.load_word-old.type_inv c.requires.based.1
    ∙ ap (λ b. old + x * 2 ^ (j * b)) (sym same)

pub returns-then-exchange : goal.returns-then-exchange
returns-then-exchange g c =
    let bits = bits_of c.args.self.now.row.now.count c.args.word in
    let old = c.load_word-old.result in
    let x = c.args.value in
    let j = c.args.j in
    let row = c.exchange.ensures.0 ∙ (c.load_word-old.ensures.same.0 ∙ c.loop.invariant.0) in
    let after = c.exchange.new.self in
    let new = (old + (x * 2 ^ c.args.shift) % 2 ^ 64) % 2 ^ 64 in
    let width = ap (λ n. bits_of n c.args.word) (after.opened ∙ ap (λ r. r.count) row) in
    let value = digit_is bits j c.args.shift c.args.base old x c.requires.shifted c.requires.based.0 c.if-old-shift-ne0.false c.requires.fits.1 c.load_word-old.type_inv c.requires.based.1 in (
      row,
      c.exchange.ensures.1 ∙ (c.load_word-old.ensures.same.1 ∙ c.loop.invariant.1),
      prefix_prefix _ _ _ c.loop.invariant.2 (prefix_prefix _ _ _ c.load_word-old.ensures.later c.exchange.ensures.2),
      λ _. sym (c.exchange.ensures.3 c.if-exchange.true j c.requires.within.1) ∙ (ap (λ b. digit b j new) width ∙ value),
    )
