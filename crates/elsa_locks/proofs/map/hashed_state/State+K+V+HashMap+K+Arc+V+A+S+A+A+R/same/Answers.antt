use Rattle.std.proofs.Common.{sym, ◌∙◌}
use Rattle.std.specs.Arc.{arc_value}
use Rattle.std.specs.HashMap.Eq.{get_from_hash_map_eq, hash_map_eq_from_get}
use Rattle.elsa_locks.proofs.Shared.{compared_shown}
use Rattle.elsa_locks.proofs.map.hashed_state.State+K+V+HashMap+K+Arc+V+A+S+A+A+R.same.Goals as goal

pub returns : goal.returns
returns g c = rw (← c.self.view_is, ← c.other.view_is) (
  (λ t q.
      sym (compared_shown g.V.PartialEq.eq (g.K.PartialEq.eq q) c.self.inside.table.entries c.other.inside.table.entries)
      ∙ get_from_hash_map_eq g.K.PartialEq.eq (λ x y. g.V.PartialEq.eq (arc_value x) (arc_value y)) g.met.K.Eq.laws c.self.inside.table c.other.inside.table (sym c.eq.ensures ∙ t) q),
  (λ h.
      c.eq.ensures
      ∙ hash_map_eq_from_get g.K.PartialEq.eq (λ x y. g.V.PartialEq.eq (arc_value x) (arc_value y)) c.self.inside.table c.other.inside.table (λ q.
      compared_shown g.V.PartialEq.eq (g.K.PartialEq.eq q) c.self.inside.table.entries c.other.inside.table.entries ∙ h q)),
)
