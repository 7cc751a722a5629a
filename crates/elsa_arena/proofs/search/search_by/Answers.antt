use Rattle.std.proofs.Common.{◌+◌, ◌-◌, ◌/◌, refl, inl}
use Rattle.elsa_arena.proofs.Callable.{callable_at_middle}
use Rattle.elsa_arena.proofs.Narrowing.{narrowed_at_start, after_low, after_high, after_call, narrowed_to_end, read_at}
use Rattle.elsa_arena.proofs.search.search_by.Goals as goal

pub loop-left-init : goal.loop-left-init
loop-left-init g c = rw c.len-right.ensures.length (narrowed_at_start _ _ _ _ _)

pub order-requires : goal.order-requires
order-requires g c =
    callable_at_middle _ _ _ _ _ _ _ _ _ c.item.result.now c.requires c.loop-left.invariant c.loop-left-test.true (read_at c.args.items.now.seen (c.loop-left.left + (c.loop-left.right - c.loop-left.left) / 2) _ c.item.ensures.item) c.item.result refl

pub loop-left-preserved-in-Less : goal.loop-left-preserved-in-Less
loop-left-preserved-in-Less g c =
    after_low _ _ _ _ _ _ _ _ _ c.item.result.now c.loop-left.invariant c.loop-left-test.true (read_at c.args.items.now.seen (c.loop-left.left + (c.loop-left.right - c.loop-left.left) / 2) _ c.item.ensures.item) record { shown = c.item.result; shows = refl; called = c.in-Less.ensures }

pub loop-left-preserved : goal.loop-left-preserved
loop-left-preserved g c =
    after_high _ _ _ _ _ _ _ _ _ c.item.result.now c.loop-left.invariant c.loop-left-test.true (read_at c.args.items.now.seen (c.loop-left.left + (c.loop-left.right - c.loop-left.left) / 2) _ c.item.ensures.item) record { shown = c.item.result; shows = refl; called = c.in-Greater.ensures }

pub returns-in-Equal : goal.returns-in-Equal
returns-in-Equal g c =
    after_call _ _ _ _ _ _ _ _ _ c.item.result.now c.loop-left.invariant c.loop-left-test.true (read_at c.args.items.now.seen (c.loop-left.left + (c.loop-left.right - c.loop-left.left) / 2) _ c.item.ensures.item) _ _ record { shown = c.item.result; shows = refl; called = c.in-Equal.ensures } (inl (refl, refl))

pub returns : goal.returns
returns g c = narrowed_to_end _ _ _ _ _ _ _ _ c.loop-left.invariant c.loop-left-test.false
