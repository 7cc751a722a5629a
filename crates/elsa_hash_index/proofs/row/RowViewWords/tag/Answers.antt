use Rattle.std.proofs.Common.{◌/◌, ◌%◌, ap, sym, ◌∙◌, arith}
use Rattle.elsa_hash_index.specs.Row.{bits_of, digit, word_at}
use Rattle.elsa_hash_index.proofs.RowLemmas.{later_at}
use Rattle.elsa_hash_index.proofs.TagLemmas.{tag_bits, tag_digit}
use Rattle.elsa_hash_index.proofs.row.RowViewWords.tag.Goals as goal

pub returns-clause-later : goal.returns-clause-later
returns-clause-later g c = later_at _ _ c.load_word-word.ensures.later

pub returns-clause-tag : goal.returns-clause-tag
returns-clause-tag g c =
    let at = c.args.at in
    let after = c.load_word-word.new.self in
    let width = ap (λ n. bits_of n (at / 8)) (after.opened ∙ ap (λ r. r.count) c.load_word-word.ensures.same.0) ∙ tag_bits c.args.self.now.row.now.count at c.requires in
    sym (ap (λ b. digit b (at % 8) c.load_word-word.result) width) ∙ (c.load_word-word.ensures.shown (at % 8) (omega arith) ∙ ap (λ d. word_at d after.seen.log) (tag_digit at))
