use Rattle.std.proofs.Common.{rules}
use Rattle.elsa_maps.proofs.Extending.{holds_first_from, holds_first_keeps}
use Rattle.elsa_maps.proofs.map.hashed.FrozenMapIn+R+K+V+S+A.extend.Goals as goal

-- room that is made leaves each key its value
pub returns : goal.returns
returns g c =
    let eq = g.K.PartialEq.eq in
    let target = g.V.HasTarget.target in
    let shown = g.V.HasTarget.shown in
    let done = c.insert_all.ensures.extended in
    let first = holds_first_from eq target shown _ _ _ done.0 c.reserve-room.ensures.content done.1 in
    record { extended = (c.into_iter-pairs.result, done.0, search rules, first, done.3); kept = holds_first_keeps eq target shown _ _ done.0 first }
