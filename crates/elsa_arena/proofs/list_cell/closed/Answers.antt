use Rattle.std.proofs.Common.{◌≡◌, ap, ◌∙◌, length, subst, sym, arith}
use Rattle.elsa_slots.specs.Geometry.{slots_before}
use Rattle.elsa_slots.proofs.GeometryLemmas.Powers.{before_power}
use Rattle.elsa_arena.specs.Ready.{AreReady}
use Rattle.elsa_arena.proofs.IndexLemmas.{begins_at}
use Rattle.elsa_arena.proofs.list_cell.closed.Goals as goal

pub returns : goal.returns
returns g c =
    let b = c.args.later.first in let l = c.requires.later in let e = c.parts-further.ensures in let seen = c.seen.inside in
    let items = ap (λ v. length v.seen) c.seen.view_is in let many = ap length c.again.ensures.1 in
    let count = c.seen.invariant.0 in let all = c.requires.seen.1 in
    let is : seen.count ≡ slots_before b = omega (arith, items, count, all) in let power = before_power b in
    record {
      names = c.again.ensures.0 ∙ (ap (λ v. v.vector) c.seen.view_is ∙ c.requires.seen.0);
      all = l.all;
      count = omega (arith, count, many);
      limit = c.seen.invariant.1;
      index = begins_at seen.count b is;
      ahead = record { buffer = b; begins = omega (arith, is, power); rights = ap (λ r. r.of) e.0 ∙ l.rights };
      ready = subst (λ fs. AreReady c.parts-further.result.0.of fs.items) (sym e.1) (subst (λ r. AreReady r.of c.args.later.ready.items) (sym e.0) l.ready);
    }
