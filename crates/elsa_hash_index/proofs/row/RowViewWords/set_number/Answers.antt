use Rattle.std.proofs.Common.{◌+◌, ◌*◌, ◌%◌, ◌^◌, ◌≤◌, ◌∙◌, ap, subst, sym, arith}
use Rattle.elsa_hash_index.specs.Row.{word_at}
use Rattle.elsa_hash_index.proofs.RowLemmas.{later_at}
use Rattle.elsa_hash_index.proofs.TagLemmas.{number_bits, number_digit}
use Rattle.elsa_hash_index.proofs.row.RowViewWords.set_number.Goals as goal

pub set-requires-clause-shifted : goal.set-requires-clause-shifted
set-requires-clause-shifted g c = ap (λ b. c.args.at % 2 * b) (sym (number_bits c.args.self.now.row.now.count c.groups.result c.args.at c.groups.ensures))

pub set-requires-clause-based : goal.set-requires-clause-based
set-requires-clause-based g c =
    let bits = number_bits c.args.self.now.row.now.count c.groups.result c.args.at c.groups.ensures in
    (ap (λ b. 2 ^ b) (sym bits), subst (λ b. c.args.at % 2 * 32 + b ≤ 64) (sym bits) (omega arith))

pub returns-clause-later : goal.returns-clause-later
returns-clause-later g c = later_at _ _ c.set.ensures.2

pub returns-clause-set : goal.returns-clause-set
returns-clause-set g c is_true = sym (ap (λ d. word_at d c.set.new.self.seen.log) (number_digit c.args.self.now.row.now.count c.groups.result c.args.at c.groups.ensures)) ∙ c.set.ensures.3 is_true
