use Rattle.std.proofs.Common.{◌≡◌, suc, ◌+◌, ◌<◌, drop, length, sym, ap, ◌∙◌, arith}
use Rattle.std.proofs.lemmas.List.{length-drop}
use lib.Seq.{drop-cons}
use Rattle.elsa_slots.proofs.ListLemmas.Copies.{closed_here, other_rights}
use Rattle.elsa_arena.proofs.state.open_fresh.Goals as goal

pub take-right-requires : goal.take-right-requires
take-right-requires g c =
    let b = c.args.buffer in let xs = c.args.into.now in let k = closed_here xs c.args.further.of c.args._n b c.args._slot c.requires.closed c.requires.location.0 in
    let low = c.requires.location.1 in let all = c.requires.location.2 in let within : b < length xs = omega (arith, low, all) in
    let l = ap length k.1 in let d = length-drop b xs in omega (arith, l, d, within)

pub fill-requires : goal.fill-requires
fill-requires g c =
    let b = c.args.buffer in let xs = c.args.into.now in let k = closed_here xs c.args.further.of c.args._n b c.args._slot c.requires.closed c.requires.location.0 in
    let low = c.requires.location.1 in let all = c.requires.location.2 in let within : b < length xs = omega (arith, low, all) in
    (low, cc (sym c.take-right.ensures ∙ (k.1 ∙ drop-cons xs b 0 within)))

pub returns-clause-open : goal.returns-clause-open
returns-clause-open g c =
    let b = c.args.buffer in let xs = c.args.into.now in let k = closed_here xs c.args.further.of c.args._n b c.args._slot c.requires.closed c.requires.location.0 in
    let low = c.requires.location.1 in let all = c.requires.location.2 in let within : b < length xs = omega (arith, low, all) in
    let value = c.fill.ensures.1 ∙ c.parts-memory.ensures.0 in let fresh = c.in-Ok.ensures.fresh in
    let rest = other_rights xs b c.take-right.result.of c.take-right.new.self.of within (sym k.1 ∙ c.take-right.ensures) in
    record {
      index = c.requires.location.0;
      evidence = c.fill.ensures.0;
      whole = ap (λ r. length r.0) value ∙ fresh.0;
      left = ap (λ r. r.of) c.parts-memory.ensures.1 ∙ (fresh.1 ∙ (sym (ap (λ r. r.0) value) ∙ ap (λ j. drop j c.fill.result.value.0) (sym k.0)));
      rights = rest ∙ ap (λ j. drop j xs) (let z : b + 1 ≡ suc b = omega arith in z);
    }
