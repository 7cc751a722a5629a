use Rattle.std.proofs.Common.{refl, inl}
use Rattle.elsa_arena.proofs.Callable.{callable_at_middle}
use Rattle.elsa_arena.proofs.Narrowing.{narrowed_at_start, after_low, after_high, after_call, narrowed_to_end}
use Rattle.elsa_vec.proofs.search.binary_search_by.Goals as goal

pub loop-left-init : goal.loop-left-init
loop-left-init g c = narrowed_at_start _ _ _ _ _

pub order-requires : goal.order-requires
order-requires g c =
    callable_at_middle _ _ _ _ _ _ _ _ _ c.index-items-middle.result c.requires c.loop-left.invariant c.loop-left-test.true c.index-items-middle.is

pub loop-left-preserved-in-Less : goal.loop-left-preserved-in-Less
loop-left-preserved-in-Less g c =
    after_low _ _ _ _ _ _ _ _ _ c.index-items-middle.result c.loop-left.invariant c.loop-left-test.true c.index-items-middle.is c.in-Less.ensures

pub loop-left-preserved : goal.loop-left-preserved
loop-left-preserved g c =
    after_high _ _ _ _ _ _ _ _ _ c.index-items-middle.result c.loop-left.invariant c.loop-left-test.true c.index-items-middle.is c.in-Greater.ensures

pub returns-in-Equal : goal.returns-in-Equal
returns-in-Equal g c =
    after_call _ _ _ _ _ _ _ _ _ c.index-items-middle.result c.loop-left.invariant c.loop-left-test.true c.index-items-middle.is _ _ c.in-Equal.ensures (inl (refl, refl))

pub returns : goal.returns
returns g c = narrowed_to_end _ _ _ _ _ _ _ _ c.loop-left.invariant c.loop-left-test.false
