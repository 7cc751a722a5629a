use Rattle.std.proofs.Common.{◌≡◌, suc, ap, ◌∙◌, drop, subst, sym, arith}
use Rattle.elsa_arena.specs.Ready.{AreReady}
use Rattle.elsa_arena.proofs.IndexLemmas.{index_low}
use Rattle.elsa_arena.proofs.list_cell.NextSlot.join.Goals as goal

pub returns : goal.returns
returns g c =
    let s = c.args.self in let xs = c.args._cell.now in let l = c.requires.later.0 in let k = c.requires.next in let e = c.parts-further.ensures in
    let low = index_low s.count s.buffer s.slot k.at.index k.openable in
    let further : c.parts-further.result.0.of ≡ drop (suc s.buffer) xs = ap (λ r. r.of) e.0 ∙ (l.rights ∙ ap (λ b. drop b xs) c.requires.later.1) in
    record {
      names = k.names;
      all = l.all;
      count = k.count;
      limit = omega (arith, low);
      index = k.at.index;
      ahead = record {
        buffer = s.buffer;
        slot = s.slot;
        later = k.later;
        at = record { index = k.at.index; evidence = k.at.evidence; whole = k.at.whole; left = k.at.left; rights = further };
      };
      ready = subst (λ fs. AreReady c.parts-further.result.0.of fs.items) (sym e.1) (subst (λ r. AreReady r.of c.args.later.ready.items) (sym e.0) l.ready);
    }
