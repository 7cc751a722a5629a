use Rattle.elsa_tables.proofs.RuleLemmas.{any_kept}
use Rattle.elsa_locks.specs.Shared.{shown}
use Rattle.elsa_locks.proofs.map.state.State+K+V+T+A.table_mut.Goals as goal

pub invariant_of-self-lent : goal.invariant_of-self-lent
invariant_of-self-lent g c = λ w. any_kept g.T.Table.same g.met.T.Table.equivalence (shown (g.T.Table.entries w))
