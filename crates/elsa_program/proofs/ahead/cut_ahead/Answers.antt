use Rattle.std.proofs.Common.{◌≡◌, length-set, sym, subst, ◌∙◌, arith, rules}
use Rattle.elsa_program.specs.Ahead.{IsHashed}
use Rattle.elsa_program.specs.Lines.{command_of}
use Rattle.elsa_interner.specs.Names.{text_hash}
use Rattle.elsa_program.specs.Replies.{asked}
use Rattle.elsa_program.proofs.AheadLemmas.{cut_more}
use Rattle.elsa_program.proofs.ahead.cut_ahead.Goals as goal

pub loop-count-preserved : goal.loop-count-preserved
loop-count-preserved g c =
    let l = c.loop-count in
    let i = l.invariant in
    let hash = text_hash g.S.BuildHasher g.S.Hasher.Hasher c.args.names.now.1 in
    let h = c.hold.result in
    let asks : asked h.request ≡ command_of c.in-Some.line.now = search rules in
    let hashed : IsHashed hash (asked h.request) h.hash = subst (λ r. IsHashed hash (asked r) h.hash) (sym c.hold.ensures.request) c.hold.ensures.hashed in (
      search rules,
      length-set l.held l.count h ∙ i.1,
      cut_more hash l.held l.count h c.args.text.now l.rest.now c.in-Some.line.now c.in-Some.later.now (omega (arith, i.1, c.loop-count-test.true)) i.2
          c.in-Some.ensures.1 c.in-Some.ensures.0 asks hashed,
    )
