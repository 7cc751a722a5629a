use Rattle.std.proofs.Common.{◌≡◌, IsSome, Some, is_some, sym, ap, ◌∙◌}
use Rattle.std.proofs.lemmas.Bool.{false_from_ne_true}
use Rattle.std.proofs.lemmas.Iterator.Adapters.{YieldsList-from_vec}
use Rattle.std.proofs.lemmas.Iterator.Consumers.{YieldsList-end}
use Rattle.std.proofs.lemmas.List.Elements.{All-nil}
use Rattle.std.specs.HashMap.Eq.{lookup_congr}
use Rattle.elsa_tables.proofs.Growing.{all_more, all_of, some_stays}
use Rattle.elsa_maps.specs.FirstWins.{value_at}
use Rattle.elsa_maps.proofs.map.laws.is_new_once.Goals as goal

pub loop-pair-init : goal.loop-pair-init
loop-pair-init g c = record { first = c.in_ok-before.ensures.found_after; between = All-nil _; kept = c.in_ok-before.ensures.kept }

pub loop-pair-preserved : goal.loop-pair-preserved
loop-pair-preserved g c =
    let same = g.M.MapForm.same in
    let held = g.M.MapForm.entries c.loop-pair.map in
    let left = g.M.MapForm.entries c.keeps_earlier_values-in-loop-pair.new.map in
    let kept = c.keeps_earlier_values-in-loop-pair.ensures.kept in
    let before = c.loop-pair.invariant in
    record {
      first = kept _ _ before.first;
      between = all_more (λ pair. IsSome (value_at same held pair.0)) (λ pair. IsSome (value_at same left pair.0)) (λ pair. some_stays _ _ (kept pair.0)) c.loop-pair.yielded before.between c.in-Some.pair (ap is_some c.in_ok-keeps_earlier_values.ensures.found_after);
      kept = λ q v had. kept q v (before.kept q v had);
    }

pub returns-in_err-keeps_earlier_values-clause-kept : goal.returns-in_err-keeps_earlier_values-clause-kept
returns-in_err-keeps_earlier_values-clause-kept g c =
    let kept = c.keeps_earlier_values-in-loop-pair.ensures.kept in λ q v had. kept q v (c.loop-pair.invariant.kept q v had)

-- the second insertion finds what the first one answered
found : (g : _) (c : goal.In_ok-after g) → value_at g.M.MapForm.same (g.M.MapForm.entries c.loop-pair.map) c.args.again.0 ≡ Some c.in_ok-before.before.0
found g c = sym (lookup_congr g.M.MapForm.same c.len.ensures.equivalence.congr (g.M.MapForm.entries c.loop-pair.map) c.args.first.0 c.args.again.0 c.requires.equal) ∙ c.loop-pair.invariant.first

pub returns-clause-once : goal.returns-clause-once
returns-clause-once g c = false_from_ne_true _ (λ yes. let none = c.in_ok-after.ensures.flag.0 yes in let some = found g c in cc)

pub returns-clause-same_value : goal.returns-clause-same_value
returns-clause-same_value g c = let some = c.in_ok-after.ensures.kept _ _ (found g c) in let there = c.in_ok-after.ensures.found_after in cc

pub returns-clause-found_after : goal.returns-clause-found_after
returns-clause-found_after g c = c.in_ok-after.ensures.kept _ _ c.loop-pair.invariant.first

pub returns-clause-between : goal.returns-clause-between
returns-clause-between g c =
    let it = c.into_iter-pair-iterator.ensures.into_iter_gives in
    let t = YieldsList-end (YieldsList-from_vec {s = c.into_iter-pair-iterator.result} c.args.between.items it.0 (it.1 ∙ c.args.between.ok.0)) c.loop-pair.yielded c.loop-pair.pair-iterator c.loop-pair.yielded_by c.next.result c.next.new.self c.in-None.is c.next.ensures.steps in
    let same = g.M.MapForm.same in
    let held = g.M.MapForm.entries c.loop-pair.map in
    let left = g.M.MapForm.entries c.keeps_earlier_values-2.new.map in
    all_of (λ pair. IsSome (value_at same held pair.0)) (λ pair. IsSome (value_at same left pair.0)) (λ pair. some_stays _ _ (c.in_ok-after.ensures.kept pair.0)) c.loop-pair.yielded c.loop-pair.invariant.between c.args.between.items t.0

pub returns-clause-kept : goal.returns-clause-kept
returns-clause-kept g c = λ q v had. c.in_ok-after.ensures.kept q v (c.loop-pair.invariant.kept q v had)
