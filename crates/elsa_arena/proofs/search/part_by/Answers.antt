use Rattle.std.proofs.Common.{◌+◌, ◌-◌, ◌/◌, refl}
use Rattle.elsa_arena.proofs.Callable.{callable_at_middle}
use Rattle.elsa_arena.proofs.Narrowing.{narrowed_at_start, after_low, after_high, narrowed_to_end, read_at}
use Rattle.elsa_arena.proofs.search.part_by.Goals as goal

pub loop-left-init : goal.loop-left-init
loop-left-init g c = rw c.len-right.ensures.length (narrowed_at_start _ _ _ _ _)

pub belongs-requires : goal.belongs-requires
belongs-requires g c =
    callable_at_middle _ _ _ _ _ _ _ _ _ c.item.result.now c.requires c.loop-left.invariant c.loop-left-test.true (read_at c.args.items.now.seen (c.loop-left.left + (c.loop-left.right - c.loop-left.left) / 2) _ c.item.ensures.item) c.item.result refl

pub loop-left-preserved-then-belongs : goal.loop-left-preserved-then-belongs
loop-left-preserved-then-belongs g c =
    after_low _ _ _ _ _ _ _ _ _ c.item.result.now c.loop-left.invariant c.loop-left-test.true (read_at c.args.items.now.seen (c.loop-left.left + (c.loop-left.right - c.loop-left.left) / 2) _ c.item.ensures.item) record { shown = c.item.result; shows = refl; called = c.if-belongs.ensures }

pub loop-left-preserved : goal.loop-left-preserved
loop-left-preserved g c =
    after_high _ _ _ _ _ _ _ _ _ c.item.result.now c.loop-left.invariant c.loop-left-test.true (read_at c.args.items.now.seen (c.loop-left.left + (c.loop-left.right - c.loop-left.left) / 2) _ c.item.ensures.item) record { shown = c.item.result; shows = refl; called = c.if-belongs.ensures }

pub returns : goal.returns
returns g c = narrowed_to_end _ _ _ _ _ _ _ _ c.loop-left.invariant c.loop-left-test.false
