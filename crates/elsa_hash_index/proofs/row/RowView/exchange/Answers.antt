use Rattle.std.proofs.Common.{◌≡◌, ◌+◌, ◌<◌, length, refl, ap, subst, sym, ◌∙◌, arith, slice_index_or}
use Rattle.std.proofs.lemmas.Bool.Decides.{nat_tests}
use Rattle.elsa_hash_index.specs.Row.{Shows, bits_of, count_of, words_of}
use Rattle.elsa_hash_index.proofs.RowLemmas.{named_at, set_moves}
use Rattle.elsa_hash_index.proofs.row.RowView.exchange.Goals as goal

pub compare_exchange-requires : goal.compare_exchange-requires
compare_exchange-requires g c =
    let me = c.args.self.now in
    let at = c.args.word in
    let within : at < length me.row.now.words.items = subst (λ n. at < n) (sym me.row.now.whole) c.requires.within.0 in
    let is = c.index.ensures ∙ (ap (λ l. slice_index_or l at c.index.result.now) me.row.now.words_are ∙ named_at me.row.now.first.book 0 (length me.row.now.words.items) at c.index.result.now within) in
    let key : c.index.result.now.key ≡ at = let k : c.index.result.now.key ≡ 0 + at = ap (λ w. w.key) is in omega (arith, k) in
    let some : 0 < count_of me.seen.log = subst (λ n. 0 < n) (sym me.opened) c.requires.within.2 in
    let lt : at < words_of (count_of me.seen.log) = subst (λ n. at < words_of n) (sym me.opened) c.requires.within.0 in
    let pen = c.no_pen-pen.ensures in
    let book = me.of ∙ sym (ap (λ w. w.book) is) in
    let are : bits_of me.row.now.count at ≡ bits_of (count_of me.seen.log) at = ap (λ n. bits_of n at) (sym me.opened) in (
      ap (λ w. w.tracked) is,
      book,
      pen.0 ∙ book,
      c.plain-offer.ensures.0,
      rw (key, pen.1) (set_moves (λ xs ys r. Unit {0}) c.plain-offer.result.ask at me.seen.log c.plain-offer.result.state some lt
          c.args.j c.args.value c.args.old c.args.new (bits_of me.row.now.count at) c.requires.fits.0 c.requires.within.1 are c.requires.free c.requires.fits.1 c.requires.sum),
    )

pub returns : goal.returns
returns g c =
    let me = c.args.self.now in
    let at = c.args.word in
    let within : at < length me.row.now.words.items = subst (λ n. at < n) (sym me.row.now.whole) c.requires.within.0 in
    let is = c.index.ensures ∙ (ap (λ l. slice_index_or l at c.index.result.now) me.row.now.words_are ∙ named_at me.row.now.first.book 0 (length me.row.now.words.items) at c.index.result.now within) in
    let key : c.index.result.now.key ≡ at = let k : c.index.result.now.key ≡ 0 + at = ap (λ w. w.key) is in omega (arith, k) in
    let done = c.compare_exchange.ensures in (
      refl,
      done.0,
      done.6,
      λ is_true. subst (λ k. Shows k c.args.new c.compare_exchange.new.seen.log) key (done.7 (grind (arith, nat_tests, is_true))),
    )
