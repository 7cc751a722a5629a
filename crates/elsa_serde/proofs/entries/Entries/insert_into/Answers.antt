use Rattle.std.proofs.Common.{◌≢◌, ◌∙◌, None, Err, length, ap, sym, arith}
use Rattle.std.proofs.lemmas.List.{nil_from_length}
use Rattle.elsa_maps.specs.FirstWins.{value_at}
use Rattle.elsa_serde.specs.Loaded.{AddsPair}
use Rattle.elsa_serde.proofs.Turns.{up_to_start, up_to_more, up_to_all, up_to_stops, at_fault}
use Rattle.elsa_serde.proofs.entries.Entries.insert_into.Goals as goal

pub loop-key-init : goal.loop-key-init
loop-key-init g c =
    let given = c.into_iter-key-iterator.ensures.into_iter_gives in
    record {
      went = up_to_start (AddsPair g.M.MapForm.same g.V.HasTarget.target g.V.HasTarget.shown g.M.MapForm.extends) length _ _ _ given.0;
      left = given.1 ∙ c.args.self.0.ok.0 ∙ sym (ap length given.0);
    }

pub loop-key-preserved : goal.loop-key-preserved
loop-key-preserved g c =
    let before = c.loop-key.invariant in
    let next = c.in-Some.ensures.steps in
    record {
      went = up_to_more (AddsPair g.M.MapForm.same g.V.HasTarget.target g.V.HasTarget.shown g.M.MapForm.extends) length _ _ _ (c.in-Some.key, c.in-Some.value) _ _ _ before.went next.0 c.in_ok-insert_next.ensures.added c.in_ok-insert_next.ensures.added.2.2;
      left = let had = ap length next.0 in let len = before.left in omega (arith, next.1, had, len);
    }

pub insert_next-requires : goal.insert_next-requires
insert_next-requires g c = let sum = c.loop-key.invariant.went.3 in let count = c.len-before.ensures.count in omega (arith, sum, count)

pub returns-clause-inserted : goal.returns-clause-inserted
returns-clause-inserted g c =
    let before = c.loop-key.invariant in
    let none = c.in-None.ensures.steps.0 in
    let len = before.left in
    up_to_all (AddsPair g.M.MapForm.same g.V.HasTarget.target g.V.HasTarget.shown g.M.MapForm.extends) length _ _ _ _ before.went (nil_from_length _ (omega (arith, none, len)))

pub returns-in_err-insert_next-clause-refused : goal.returns-in_err-insert_next-clause-refused
returns-in_err-insert_next-clause-refused g c =
    let before = c.loop-key.invariant in
    let failed = c.in_err-insert_next.ensures in
    let count = c.len-before.ensures.count in
    at_fault c.from_residual.result c.in_err-insert_next.field-0.0 _ c.from_residual.ensures.1
    (up_to_stops (AddsPair g.M.MapForm.same g.V.HasTarget.target g.V.HasTarget.shown g.M.MapForm.extends) length (λ kept p. value_at g.M.MapForm.same kept p.0 ≢ None) (λ _. ⊥) _ _ _ (c.in-Some.key, c.in-Some.value) _ _ _ _
    before.went c.in-Some.ensures.steps.0 failed.refused
    (λ index is. let f = failed.duplicate index (ap Err is) in let at = f.0 in (omega (arith, at, count), f.1)) (λ is. failed.fits (ap Err is)))
