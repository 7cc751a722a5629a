use Rattle.std.proofs.Common.{◌≡◌, ◌++◌, map}
use Rattle.std.specs.List.{AllZip}
use Rattle.elsa_locks.proofs.map.hashed_state.State+K+V+HashMap+K+Arc+V+A+S+A+A+R.keys_cloned.Given as goal

-- The keys so far are clones of those that the iterator returned, in their order.
abbrev pub invariant-loop-key : goal.invariant-loop-key
invariant-loop-key g l = AllZip (λ p k. g.K.Clone.is_clone p k) (map (λ b. b.now) l.yielded) l.keys.items × (map (λ b. b.now) l.yielded ++ l.key-iterator ≡ l.initial.key-iterator)
