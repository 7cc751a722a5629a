use Rattle.std.proofs.Common.{◌≡◌, ◌+◌, set, suc, ap, subst, ◌∙◌, arith}
use Rattle.std.proofs.lemmas.List.{length-set}
use Rattle.std.specs.Prelude.{slice_index, slice_range}
use Rattle.elsa_interner.specs.Names.{Puts}
use Rattle.elsa_c.specs.Codes.{PutsAll, start_of, text_of}
use Rattle.elsa_c.proofs.CodeLemmas.{puts_next}
use Rattle.elsa_c.proofs.names.Names.put_all.Goals as goal

pub loop-at-preserved : goal.loop-at-preserved
loop-at-preserved g c =
    let i = c.loop-at.at in
    let bytes = c.args.bytes.now in
    let ends = c.args.ends.now in
    let codes = c.loop-at.codes in
    let code = c.in-Ok-put.code in
    let inv = c.loop-at.invariant in
    let next : suc i ≡ i + 1 = omega arith in
    let same = length-set codes i code in
    let text : c.in-Ok.text.now ≡ text_of bytes ends i = c.in-Ok.ensures.text ∙ ap (λ s. slice_range bytes s (slice_index ends i)) inv.0 in
    let put = subst (λ t. Puts c.loop-at.self t code c.put.new.self) text c.in-Ok-put.ensures.numbered in (
      ap (start_of ends) next,
      same ∙ inv.1,
      omega (arith, same, inv.2),
      subst (λ k. PutsAll (text_of bytes ends) k c.args.self.now c.put.new.self c.args.codes.now (set codes i code)) next
          (puts_next (text_of bytes ends) i c.args.self.now c.loop-at.self c.put.new.self c.args.codes.now codes code inv.3 (omega (arith, c.loop-at-test.true, c.loop-at.auto.at-end, inv.2)) put c.in-Ok-put.ensures.kept_at),
    )
