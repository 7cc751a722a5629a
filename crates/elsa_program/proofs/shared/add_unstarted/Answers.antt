use Rattle.std.proofs.Common.{rules, arith, ◌≡◌, ℕ, ◌≤◌, ◌∙◌, List, [], ◌∷◌, ◌++◌, All, Some, length, ap, refl, subst, sym}
use mathlib.Core.List.{IsPrefix}
use Rattle.std.proofs.lemmas.List.Elements.{All-push}
use Rattle.elsa_lock_free.specs.declared.event.Entry.{Entry}
use Rattle.elsa_lock_free.specs.SharedList.{View}
use Rattle.elsa_program.specs.declared.shared.Done.{Done}
use Rattle.elsa_program.specs.declared.shared.SharedFault.TheVariants.{Thread}
use Rattle.elsa_program.specs.Workers.{Each, IsWorkOf}
use Rattle.elsa_program.proofs.Indices.{Each-push}
use Rattle.elsa_lock_free.proofs.Pushed.{nothing_earlier, nothing_pushed}
use Rattle.elsa_program.proofs.shared.add_unstarted.Goals as goal

-- A worker that wasn't started has pushed nothing.
pub loop-preserved : goal.loop-preserved
loop-preserved g c =
    let was = c.loop.invariant in let made = c.begin-theirs.ensures in
    let theirs : View ℕ = c.begin-theirs.result in let begun : List (Entry ℕ) = c.args._begun.now.seen in
    let IsDone : ℕ → Done g.row.A.Denot → Type 0 = λ worker d. IsWorkOf c.args.vector.now begun c.args._count worker d.pass d.fault in
    let IsWithin : Done g.row.A.Denot → Type 0 = λ d. length d.pass.seen ≤ length c.begin-theirs.new.pass.seen in
    let none = nothing_pushed theirs.writer theirs.seen made.nothing_mine in
    let pre : IsPrefix begun theirs.seen = subst (λ (es : List (Entry ℕ)). IsPrefix begun es) (sym (made.seen ∙ ap (λ (p : View ℕ). p.seen) was.0)) c.requires.begun in
    let added : Done g.row.A.Denot = record { pass = theirs; fault = Some Thread } in
    let items : c.push.new.self.items ≡ c.loop.done.items ++ added ∷ [] = search rules in
    let work : IsDone (length c.loop.done.items) added = (made.same_vector, nothing_earlier theirs.writer begun theirs.seen pre none, (0, none, refl)) in
    let within : All IsWithin c.loop.done.items = subst (λ (p : View ℕ). All (λ (d : Done g.row.A.Denot). length d.pass.seen ≤ length p.seen) c.loop.done.items) (sym made.same) was.4 in
    let seen : IsWithin added = let e = ap (λ (p : View ℕ). length p.seen) made.same in let h = ap (λ (es : List (Entry ℕ)). length es) made.seen in omega arith in (
      made.same ∙ was.0,
      search rules,
      search rules,
      subst (Each IsDone) (sym items) (Each-push IsDone c.loop.done.items added was.3 work),
      subst (All IsWithin) (sym items) (All-push IsWithin c.loop.done.items added within seen),
    )
