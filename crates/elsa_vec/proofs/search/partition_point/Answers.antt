use Rattle.elsa_arena.proofs.Callable.{callable_at_middle}
use Rattle.elsa_arena.proofs.Narrowing.{narrowed_at_start, after_low, after_high, narrowed_to_end}
use Rattle.elsa_vec.proofs.search.partition_point.Goals as goal

pub loop-left-init : goal.loop-left-init
loop-left-init g c = narrowed_at_start _ _ _ _ _

pub belongs-requires : goal.belongs-requires
belongs-requires g c =
    callable_at_middle _ _ _ _ _ _ _ _ _ c.index-items-middle.result c.requires c.loop-left.invariant c.loop-left-test.true c.index-items-middle.is

pub loop-left-preserved-then-belongs : goal.loop-left-preserved-then-belongs
loop-left-preserved-then-belongs g c =
    after_low _ _ _ _ _ _ _ _ _ c.index-items-middle.result c.loop-left.invariant c.loop-left-test.true c.index-items-middle.is c.if-belongs.ensures

pub loop-left-preserved : goal.loop-left-preserved
loop-left-preserved g c =
    after_high _ _ _ _ _ _ _ _ _ c.index-items-middle.result c.loop-left.invariant c.loop-left-test.true c.index-items-middle.is c.if-belongs.ensures

pub returns : goal.returns
returns g c = narrowed_to_end _ _ _ _ _ _ _ _ c.loop-left.invariant c.loop-left-test.false
