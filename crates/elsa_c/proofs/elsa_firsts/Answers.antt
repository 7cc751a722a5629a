use Rattle.std.proofs.Common.{◌≡◌, ◌+◌, length, suc, slice_get, Some, ap, subst, sym, ◌∙◌, arith, inl}
use Rattle.std.specs.Prelude.{slice_index}
use Rattle.std.proofs.lemmas.Option.{slice_get-get_or, slice_get_within}
use Rattle.elsa_c.proofs.CodeLemmas.{AreNoted, noted_known, noted_new}
use Rattle.elsa_c.proofs.elsa_firsts.Goals as goal
use Rattle.elsa_c.proofs.elsa_firsts.Goals.{then-codes-at+else-count-firsts, else-codes-at}

pub loop-at-preserved : goal.loop-at-preserved
loop-at-preserved c =
    let codes = c.args.codes.now in
    let firsts = c.loop-at.firsts in
    let at = c.loop-at.at in
    let count = c.loop-at.count in
    let room = length c.args.firsts.now in
    let next : suc at ≡ at + 1 = omega arith in
    let code = slice_index codes at in
    let read : slice_get codes at ≡ Some code = slice_get-get_or codes at 0 (omega (arith, c.loop-at-test.true, c.loop-at.auto.at-end)) in
    subst (λ k. AreNoted codes room k c.if-codes-at.count c.if-codes-at.firsts) next (elim c.if-codes-at.branch [
      | then-codes-at+else-count-firsts w ↦
          let same : code ≡ count = omega (arith, w.if-codes-at.true) in
          let more : suc count ≡ c.if-codes-at.count = omega (arith, w.count-is) in
          subst (λ n. AreNoted codes room (suc at) n c.if-codes-at.firsts) more (subst (λ l. AreNoted codes room (suc at) (suc count) l) (sym w.firsts-is)
          (noted_new codes room at count firsts c.loop-at.invariant (omega (arith, w.if-count-firsts.false)) (read ∙ ap Some same)))
      | else-codes-at w ↦
          subst (λ n. AreNoted codes room (suc at) n c.if-codes-at.firsts) (sym w.count-is) (subst (λ l. AreNoted codes room (suc at) count l) (sym w.firsts-is)
          (noted_known codes room at count code firsts c.loop-at.invariant read (λ e. omega (arith, e, w.if-codes-at.false))))
    ])

pub returns-clause-whole : goal.returns-clause-whole
returns-clause-whole c order i code read =
    let codes = c.args.codes.now in
    inl (c.loop-at.invariant.3 order i code (omega (arith, slice_get_within codes i code read, c.loop-at-test.false, c.loop-at.auto.at-end)) read)
