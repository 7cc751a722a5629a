use Rattle.std.proofs.Common.{◌≡◌, ℕ, get_or, inl, inr, ap, sym, ◌∙◌, arith}
use Rattle.std.proofs.Math.ListN.{length-set}
use Rattle.std.proofs.lemmas.Bool.{cases_lt}
use Rattle.std.proofs.lemmas.List.{get_or-set_other}
use Rattle.std.proofs.lemmas.Grind.{get_or-set_at}
use Rattle.std.specs.Option.{unwrap_or}
use Rattle.elsa_buckets.specs.Groups.{number_in}
use Rattle.elsa_buckets.proofs.groups.hashes_in.Goals as goal

pub loop-lane-preserved : goal.loop-lane-preserved
loop-lane-preserved c =
    let read = c.loop-lane.read in
    let lane = c.loop-lane.lane in
    let hash : c.unwrap_or.result ≡ get_or c.args.hashes.now (number_in c.args.group.now lane) 0
    = c.unwrap_or.ensures ∙ ap (λ o. unwrap_or o 0) c.copied.ensures ∙ c.get.ensures.lookup.4 (omega arith) 0 ∙ ap (λ n. get_or c.args.hashes.now n 0) c.number.ensures in (
      λ k lt. elim (cases_lt k lane) [
        | inl lower ↦ get_or-set_other read lane k c.unwrap_or.result 0 (omega arith) ∙ c.loop-lane.invariant.0 k lower
        | inr ge ↦
            let e : ◌≡◌ {A = ℕ} lane k = omega arith in
            get_or-set_at read lane k c.unwrap_or.result 0 (sym e) (omega (arith, c.loop-lane.invariant.1, c.loop-lane-test.true)) ∙ hash ∙ ap (λ n. get_or c.args.hashes.now (number_in c.args.group.now n) 0) e
      ],
      length-set read lane c.unwrap_or.result ∙ c.loop-lane.invariant.1,
    )
