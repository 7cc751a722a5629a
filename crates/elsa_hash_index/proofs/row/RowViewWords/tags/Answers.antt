use Rattle.std.proofs.Common.{◌≡◌, ℕ, ◌+◌, ◌-◌, ◌*◌, ◌^◌, ◌<◌, List, [], ◌∷◌, get_or, inl, inr, ap, subst, sym, ◌∙◌, arith}
use Rattle.std.proofs.lemmas.Bool.{cases_lt}
use mathlib.Core.List.{IsPrefix, append-nil}
use lib.Lanes.{number_l, digits_l}
use Rattle.elsa_hash_index.specs.declared.row.Event.{Event}
use Rattle.elsa_hash_index.specs.Row.{Shows, bits_of, count_of, digit, word_at}
use Rattle.elsa_hash_index.specs.Words.{groups_of}
use Rattle.elsa_hash_index.proofs.RowLemmas.{later_at, prefix_prefix}
use Rattle.elsa_hash_index.proofs.TagLemmas.{byte_digit, tag_word_bits}
use Rattle.elsa_hash_index.proofs.row.RowViewWords.tags.Goals as goal

-- A tag of a word that is shown by a history.
lane_in : {S : Type 0} (count group j i low high : ℕ) (log : List (Event S)) → group < groups_of count → low < 2 ^ 64 → high < 2 ^ 64 → j < 2 → i < 8 → count_of log ≡ count
    → Shows (2 * group + j) (get_or (low ∷ high ∷ []) j 0) log → get_or (digits_l 256 16 (number_l 18446744073709551616 (low ∷ high ∷ []))) (8 * j + i) 0 ≡ word_at (16 * group + (8 * j + i)) log
lane_in count group j i low high log within l h two small is shown =
    let width : bits_of (count_of log) (2 * group + j) ≡ 8 = ap (λ n. bits_of n (2 * group + j)) is ∙ tag_word_bits count (2 * group + j) (omega (arith, within, two)) in
    let at : 8 * (2 * group + j) + i ≡ 16 * group + (8 * j + i) = omega arith in
    byte_digit low high j i l h small (omega (arith, two, small)) ∙ (ap (λ b. digit b i (get_or (low ∷ high ∷ []) j 0)) (sym width) ∙ (shown i small ∙ ap (λ k. word_at k log) at))

-- Each tag is as in a history that the view had observed between the two loads, or after them.
lane_at : (g : _) (c : goal.After-load_word-high g) (lane : ℕ) → lane < 16
    → (log : List (Event g.row.S.Denot)) × IsPrefix c.args.self.now.seen.log log × IsPrefix log c.load_word-high.new.self.seen.log
    × (get_or (digits_l 256 16 (number_l 18446744073709551616 (c.load_word-low.result ∷ c.load_word-high.result ∷ []))) lane 0 ≡ word_at (16 * c.args.group + lane) log)
lane_at g c lane lt =
    let early = c.load_word-early in
    let low = c.load_word-low in
    let high = c.load_word-high in
    let count = c.args.self.now.row.now.count in
    let group = c.args.group in
    let row = high.ensures.same.0 ∙ (low.ensures.same.0 ∙ early.ensures.same.0) in
    elim (cases_lt lane 8) [
      | inl less ↦
          let e : 8 * 0 + lane ≡ lane = omega arith in
          let k : 2 * group ≡ 2 * group + 0 = omega arith in (
            low.new.self.seen.log,
            prefix_prefix _ _ _ early.ensures.later low.ensures.later,
            high.ensures.later,
            subst (λ n. get_or (digits_l 256 16 (number_l 18446744073709551616 (low.result ∷ high.result ∷ []))) n 0 ≡ word_at (16 * group + n) low.new.self.seen.log) e
                (lane_in count group 0 lane low.result high.result low.new.self.seen.log c.requires low.type_inv high.type_inv (omega arith) less (low.new.self.opened ∙ ap (λ r. r.count) (low.ensures.same.0 ∙ early.ensures.same.0))
                (subst (λ n. Shows n low.result low.new.self.seen.log) k low.ensures.shown)),
          )
      | inr more ↦
          let e : 8 * 1 + (lane - 8) ≡ lane = omega (arith, more) in (
            high.new.self.seen.log,
            prefix_prefix _ _ _ early.ensures.later (prefix_prefix _ _ _ low.ensures.later high.ensures.later),
            ([], append-nil high.new.self.seen.log),
            subst (λ n. get_or (digits_l 256 16 (number_l 18446744073709551616 (low.result ∷ high.result ∷ []))) n 0 ≡ word_at (16 * group + n) high.new.self.seen.log) e
                (lane_in count group 1 (lane - 8) low.result high.result high.new.self.seen.log c.requires low.type_inv high.type_inv (omega arith) (omega (arith, lt, more)) (high.new.self.opened ∙ ap (λ r. r.count) row)
                high.ensures.shown),
          )
    ]

pub returns-clause-later : goal.returns-clause-later
returns-clause-later g c = later_at _ _ (prefix_prefix _ _ _ c.load_word-early.ensures.later (prefix_prefix _ _ _ c.load_word-low.ensures.later c.load_word-high.ensures.later))

pub returns-clause-known : goal.returns-clause-known
returns-clause-known g c lane lt pos = let at = lane_at g c lane lt in at.3 ∙ later_at _ _ at.1 (16 * c.args.group + lane) pos

pub returns-clause-tags : goal.returns-clause-tags
returns-clause-tags g c lane lt pos = let at = lane_at g c lane lt in later_at _ _ at.2 (16 * c.args.group + lane) (subst (λ n. 0 < n) at.3 pos) ∙ sym at.3
