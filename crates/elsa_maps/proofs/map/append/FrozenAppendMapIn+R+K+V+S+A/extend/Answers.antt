use Rattle.std.proofs.Common.{rules, subst}
use Rattle.elsa_maps.specs.FirstWins.{AppendsFirsts, HoldsFirst}
use Rattle.elsa_maps.proofs.map.append.FrozenAppendMapIn+R+K+V+S+A.extend.Goals as goal

-- room that is made leaves the entries
pub returns : goal.returns
returns g c =
    let eq = g.K.PartialEq.eq in
    let target = g.V.HasTarget.target in
    let shown = g.V.HasTarget.shown in
    let done = c.insert_all.ensures.extended in
    let kept = c.reserve-room.ensures.content in
    let first = subst (λ es. HoldsFirst eq target shown es done.0 c.insert_all.new.self) kept done.1 in
    let appended = subst (λ es. AppendsFirsts eq target shown es done.0 c.insert_all.new.self) kept (done.2 (λ es k b fs last. last)) in
    record {
      extended = (c.into_iter-pairs.result, done.0, search rules, appended, done.3);
      values = (c.into_iter-pairs.result, done.0, search rules, first, done.3);
      kept = (appended.0, appended.2);
    }
