use Rattle.elsa_tables.proofs.RuleLemmas.{any_kept}
use Rattle.std.specs.Cmp.{eq_by_cmp_equiv}
use Rattle.elsa_locks.proofs.map.ordered_state.State+K+V+BTreeMap+K+Arc+V+A+A+A.from_map.Goals as goal

pub over-requires : goal.over-requires
over-requires g c = any_kept _ (eq_by_cmp_equiv g.met.K.Ord.total) _
