use Rattle.std.proofs.Common.{◌≡◌, map, arith}
use Rattle.std.specs.Map.{keys_of}
use Rattle.std.proofs.lemmas.List.{map-append}
use Rattle.std.proofs.lemmas.List.Elements.{AllZip-push}
use Rattle.std.proofs.lemmas.Grind.{common_steps}
use Rattle.elsa_locks.proofs.Clones.{keys_of_clones}
use Rattle.elsa_locks.proofs.Shared.{keys_shown}
use Rattle.elsa_locks.proofs.map.hashed_state.State+K+V+HashMap+K+Arc+V+A+S+A+A+R.keys_cloned.Goals as goal

pub loop-key-preserved : goal.loop-key-preserved
loop-key-preserved g c = (
  rw (c.in_ok-push.ensures.items, map-append) (AllZip-push _ _ _ _ _ c.loop-key.invariant.0 c.in_ok-clone.ensures.cases),
  grind (arith, common_steps, c.loop-key.invariant.1, c.in-Some.ensures.steps),
)

pub returns-clause-keys : goal.returns-clause-keys
returns-clause-keys g c =
    let all : map (λ b. b.now) c.loop-key.yielded ≡ keys_of c.self.inside.table.entries =
    grind (arith, common_steps, c.loop-key.invariant.1, c.in-None.ensures.steps, c.keys-key-items.ensures.rest, c.into_iter-key-iterator.ensures.into_iter_gives) in
    rw (← c.self.view_is) (keys_of_clones g.met.K.Eq.laws g.K.Clone.is_clone c.requires _ c.loop-key.keys.items
    (rw (keys_shown c.self.inside.table.entries, ← all) c.loop-key.invariant.0) (rw keys_shown c.keys-key-items.ensures.unique))
