use Rattle.std.proofs.Common.{◌+◌, ◌*◌, ◌/◌, ◌%◌, ap, sym, ◌∙◌, arith}
use Rattle.elsa_hash_index.specs.Row.{bits_of, digit, word_at}
use Rattle.elsa_hash_index.proofs.RowLemmas.{later_at}
use Rattle.elsa_hash_index.proofs.TagLemmas.{number_bits, number_digit}
use Rattle.elsa_hash_index.proofs.row.RowViewWords.number.Goals as goal

pub returns-clause-later : goal.returns-clause-later
returns-clause-later g c = later_at _ _ c.load_word-word.ensures.later

pub returns-clause-number : goal.returns-clause-number
returns-clause-number g c =
    let at = c.args.at in
    let count = c.args.self.now.row.now.count in
    let after = c.load_word-word.new.self in
    let width = ap (λ n. bits_of n (2 * c.groups.result + at / 2)) (after.opened ∙ ap (λ r. r.count) c.load_word-word.ensures.same.0) ∙ number_bits count c.groups.result at c.groups.ensures in
    sym (ap (λ b. digit b (at % 2) c.load_word-word.result) width) ∙ (c.load_word-word.ensures.shown (at % 2) (omega arith) ∙ ap (λ d. word_at d after.seen.log) (number_digit count c.groups.result at c.groups.ensures))
