use Rattle.elsa_arena.specs.Observed.{Continues}
use Rattle.elsa_cell.specs.Extended.{AppendsFirsts}
use Rattle.elsa_cell.proofs.map_hold.FrozenHold.extend.Given as goal

abbrev pub invariant-loop-pair : goal.invariant-loop-pair
invariant-loop-pair g l = record {
  continues : Continues l.fn.self l.self;
  firsts : AppendsFirsts g.T.Indices.same l.fn.self.seen l.yielded l.self.seen;
}
