use Rattle.std.proofs.Common.{◌≡◌, ◌+◌, ◌<◌, length, ap, subst, sym, ◌∙◌, arith, slice_index_or}
use Rattle.elsa_hash_index.specs.Row.{Shows, count_of, words_of}
use Rattle.elsa_hash_index.proofs.RowLemmas.{named_at, read_moves}
use Rattle.elsa_hash_index.proofs.row.RowView.load_word.Goals as goal

pub load-requires : goal.load-requires
load-requires g c =
    let me = c.args.self.now in
    let at = c.args.word in
    let within : at < length me.row.now.words.items = subst (λ n. at < n) (sym me.row.now.whole) c.requires.0 in
    let is = c.index.ensures ∙ (ap (λ l. slice_index_or l at c.index.result.now) me.row.now.words_are ∙ named_at me.row.now.first.book 0 (length me.row.now.words.items) at c.index.result.now within) in
    let key : c.index.result.now.key ≡ at = let k : c.index.result.now.key ≡ 0 + at = ap (λ w. w.key) is in omega (arith, k) in
    let some : 0 < count_of me.seen.log = subst (λ n. 0 < n) (sym me.opened) c.requires.1 in
    let lt : at < words_of (count_of me.seen.log) = subst (λ n. at < words_of n) (sym me.opened) c.requires.0 in (
      ap (λ w. w.tracked) is,
      me.of ∙ sym (ap (λ w. w.book) is),
      c.plain-offer.ensures.0,
      rw key (read_moves (λ xs ys r. Unit {0}) c.plain-offer.result.ask at me.seen.log c.plain-offer.result.state some lt),
    )

pub returns-clause-shown : goal.returns-clause-shown
returns-clause-shown g c =
    let me = c.args.self.now in
    let at = c.args.word in
    let within : at < length me.row.now.words.items = subst (λ n. at < n) (sym me.row.now.whole) c.requires.0 in
    let is = c.index.ensures ∙ (ap (λ l. slice_index_or l at c.index.result.now) me.row.now.words_are ∙ named_at me.row.now.first.book 0 (length me.row.now.words.items) at c.index.result.now within) in
    let key : c.index.result.now.key ≡ at = let k : c.index.result.now.key ≡ 0 + at = ap (λ w. w.key) is in omega (arith, k) in
    subst (λ k. Shows k c.load.result c.load.new.seen.log) key c.load.ensures.6.1
