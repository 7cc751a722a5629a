use Rattle.std.proofs.Common.{◌≡◌, ◌∙◌, ap, subst, sym}
use Rattle.std.specs.Option.{option_map}
use Rattle.std.specs.Fn.{FnOnceReturnsAt}
use Rattle.std.specs.Map.{lookup}
use Rattle.std.specs.Arc.{arc_value}
use Rattle.elsa_locks.specs.Shared.{shown}
use Rattle.elsa_tables.specs.Rules.{IsKept}
use Rattle.elsa_tables.proofs.RuleLemmas.{inserted_kept}
use Rattle.elsa_locks.proofs.Insertions.{is_there, is_absent, found_says, added_says, at_err}
use Rattle.elsa_locks.proofs.Shared.{lookup_shown}
use Rattle.elsa_locks.proofs.map.state.State.put_with_key.Goals as goal

pub put_with-requires-clause-makes : goal.put_with-requires-clause-makes
put_with-requires-clause-makes g c n = c.requires.callable (rw (← c.self.view_is) (lookup_shown (g.T.Table.same c.args.key) (g.T.Table.entries c.self.inside.table) ∙ ap (option_map arc_value) n))

pub returns-in_err-there-in-Found-clause-refused : goal.returns-in_err-there-in-Found-clause-refused
returns-in_err-there-in-Found-clause-refused g c =
    let some = is_there (lookup (g.T.Table.same c.args.key) (g.T.Table.entries c.self.inside.table)) (λ n. rw (c.in-Found.is) at (c.in-Ok.ensures.added n)) in
    let seen = rw (c.in-Found.is) at (c.in-Ok.ensures.present some.0 some.1) in
    at_err c.from_residual.result _ (rw (← c.self.view_is) (ap shown seen.0))

pub invariant_of-self-in_err-there-in-Found : goal.invariant_of-self-in_err-there-in-Found
invariant_of-self-in_err-there-in-Found g c =
    let some = is_there (lookup (g.T.Table.same c.args.key) (g.T.Table.entries c.self.inside.table)) (λ n. rw (c.in-Found.is) at (c.in-Ok.ensures.added n)) in
    let seen = rw (c.in-Found.is) at (c.in-Ok.ensures.present some.0 some.1) in
    subst (λ es. IsKept g.T.Table.same g.R.EntryRule.holds (shown es)) (sym seen.0) c.self.invariant

pub invariant_of-self-in-Found : goal.invariant_of-self-in-Found
invariant_of-self-in-Found g c =
    let some = is_there (lookup (g.T.Table.same c.args.key) (g.T.Table.entries c.self.inside.table)) (λ n. rw (c.in-Found.is) at (c.in-Ok.ensures.added n)) in
    let seen = rw (c.in-Found.is) at (c.in-Ok.ensures.present some.0 some.1) in
    subst (λ es. IsKept g.T.Table.same g.R.EntryRule.holds (shown es)) (sym seen.0) c.self.invariant

pub returns-in-Found : goal.returns-in-Found
returns-in-Found g c =
    let some = is_there (lookup (g.T.Table.same c.args.key) (g.T.Table.entries c.self.inside.table)) (λ n. rw (c.in-Found.is) at (c.in-Ok.ensures.added n)) in
    let seen = rw (c.in-Found.is) at (c.in-Ok.ensures.present some.0 some.1) in
    let owner : arc_value c.in_ok-there-in-Found.field-0 ≡ arc_value some.0 = (rw c.in_ok-there-in-Found.was at seen.1.0.1) ∙ ap arc_value seen.1.0.2 in
    let says = found_says g.T.Table.same (g.T.Table.entries c.self.inside.table) (g.T.Table.entries c.put_with.new.self) c.args.key some.0 (arc_value c.in_ok-there-in-Found.field-0) (FnOnceReturnsAt g.F.FnOnce c.args.f c.args.key) some.1 seen.0 owner in
    rw (← c.self.view_is) record { answer = says.0; holds = invariant_of-self-in-Found g c c.args.key (arc_value c.in_ok-there-in-Found.field-0) says.1; value_after = says.1; is_new = says.2; content = says.3; refused = tt }

pub invariant_of-self-2 : goal.invariant_of-self-2
invariant_of-self-2 g c =
    let absent = is_absent (lookup (g.T.Table.same c.args.key) (g.T.Table.entries c.self.inside.table)) (λ x at. (rw (c.in-Added.is) at (c.in-Ok.ensures.present x at)).1) in
    let made = rw (c.in-Added.is) at (c.in-Ok.ensures.added absent) in
    let says = added_says g.T.Table.same (g.T.Table.entries c.self.inside.table) (g.T.Table.entries c.put_with.new.self) c.args.key made.0 (arc_value c.in-Added.answer) (FnOnceReturnsAt g.F.FnOnce c.args.f c.args.key) absent made.2 (sym made.1.1.0) (made.1.0, made.1.1.1, made.1.2) in
    inserted_kept g.T.Table.same g.met.T.Table.equivalence g.R.EntryRule.holds (shown (g.T.Table.entries c.self.inside.table)) (shown (g.T.Table.entries c.put_with.new.self)) c.self.invariant c.args.key (arc_value c.in-Added.answer)
    (λ n. c.requires.holds (arc_value c.in-Added.answer) (made.1.0, made.1.1.1, made.1.2)) says.3.2

pub returns : goal.returns
returns g c =
    let absent = is_absent (lookup (g.T.Table.same c.args.key) (g.T.Table.entries c.self.inside.table)) (λ x at. (rw (c.in-Added.is) at (c.in-Ok.ensures.present x at)).1) in
    let made = rw (c.in-Added.is) at (c.in-Ok.ensures.added absent) in
    let says = added_says g.T.Table.same (g.T.Table.entries c.self.inside.table) (g.T.Table.entries c.put_with.new.self) c.args.key made.0 (arc_value c.in-Added.answer) (FnOnceReturnsAt g.F.FnOnce c.args.f c.args.key) absent made.2 (sym made.1.1.0) (made.1.0, made.1.1.1, made.1.2) in
    rw (← c.self.view_is) record { answer = says.0; holds = invariant_of-self-2 g c c.args.key (arc_value c.in-Added.answer) says.1; value_after = says.1; is_new = says.2; content = says.3; refused = tt }
