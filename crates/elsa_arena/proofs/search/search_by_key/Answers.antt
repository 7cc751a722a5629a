use Rattle.std.proofs.Common.{◌+◌, ◌-◌, ◌/◌, refl, sym, ◌∙◌, inl}
use Rattle.elsa_arena.proofs.Callable.{callable_at_middle, callable_by_key}
use Rattle.elsa_arena.proofs.Narrowing.{narrowed_at_start, after_low, after_high, after_call, narrowed_to_end, read_at}
use Rattle.elsa_arena.proofs.search.search_by_key.Goals as goal

pub loop-left-init : goal.loop-left-init
loop-left-init g c = rw c.len-right.ensures.length (narrowed_at_start _ _ _ _ _)

pub key_of-requires : goal.key_of-requires
key_of-requires g c =
    callable_at_middle _ _ _ _ _ _ _ _ _ c.item.result.now (callable_by_key g.K.Ord.cmp c.args.key.now _ _ _ _ c.requires) c.loop-left.invariant c.loop-left-test.true (read_at c.args.items.now.seen (c.loop-left.left + (c.loop-left.right - c.loop-left.left) / 2) _ c.item.ensures.item) c.item.result refl

pub loop-left-preserved-in-Less : goal.loop-left-preserved-in-Less
loop-left-preserved-in-Less g c =
    after_low _ _ _ _ _ _ _ _ _ c.item.result.now c.loop-left.invariant c.loop-left-test.true (read_at c.args.items.now.seen (c.loop-left.left + (c.loop-left.right - c.loop-left.left) / 2) _ c.item.ensures.item) (c.key_of.result, record { shown = c.item.result; shows = refl; called = c.key_of.ensures }, sym c.cmp-order.ensures ∙ c.in-Less.is)

pub loop-left-preserved : goal.loop-left-preserved
loop-left-preserved g c =
    after_high _ _ _ _ _ _ _ _ _ c.item.result.now c.loop-left.invariant c.loop-left-test.true (read_at c.args.items.now.seen (c.loop-left.left + (c.loop-left.right - c.loop-left.left) / 2) _ c.item.ensures.item) (c.key_of.result, record { shown = c.item.result; shows = refl; called = c.key_of.ensures }, sym c.cmp-order.ensures ∙ c.in-Greater.is)

pub returns-in-Equal : goal.returns-in-Equal
returns-in-Equal g c =
    after_call _ _ _ _ _ _ _ _ _ c.item.result.now c.loop-left.invariant c.loop-left-test.true (read_at c.args.items.now.seen (c.loop-left.left + (c.loop-left.right - c.loop-left.left) / 2) _ c.item.ensures.item) _ _ (c.key_of.result, record { shown = c.item.result; shows = refl; called = c.key_of.ensures }, sym c.cmp-order.ensures ∙ c.in-Equal.is) (inl (refl, refl))

pub returns : goal.returns
returns g c = narrowed_to_end _ _ _ _ _ _ _ _ c.loop-left.invariant c.loop-left-test.false
