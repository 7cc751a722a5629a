use Rattle.std.proofs.Common.{rules, ◌≡◌, ℕ, ◌+◌, ◌∙◌, List, All, ap, subst, sym}
use Rattle.std.specs.Vec.Iter.{into_iter_items}
use Rattle.std.proofs.lemmas.Grind.{common_steps}
use Rattle.std.proofs.lemmas.List.Elements.{All-cons}
use Rattle.elsa_lock_free.specs.declared.event.Entry.{Entry}
use Rattle.elsa_lock_free.specs.SharedList.{View, pushed_by}
use Rattle.elsa_program.specs.declared.shared.Done.{Done}
use Rattle.elsa_program.proofs.Passes.{first_is_longer, same_view}
use Rattle.elsa_lock_free.proofs.Pushed.{pushes_none}
use Rattle.elsa_program.proofs.shared.settle.Goals as goal

-- The worker's view has the observed prefix of `pass` now, and `pass` is unchanged.
pub loop-worker-preserved : goal.loop-worker-preserved
loop-worker-preserved g c =
    let was = c.loop-worker.invariant in let step = c.in-Some.ensures.steps in let met = c.meet.ensures in
    let pass = c.loop-worker.pass in let next = c.in-Some.worker in let theirs = c.meet.new.other in
    let rest = into_iter_items c.next.new.self in let all = c.args.done.items in
    let IsAll : View ℕ → Done g.row.A.Denot → Type 0 = λ p d. pushed_by d.pass.writer p.seen ≡ pushed_by d.pass.writer d.pass.seen in
    let within = was.3 0 next in
    let seen : c.meet.new.self.seen ≡ pass.seen = met.1.0 ∙ first_is_longer pass.seen next.pass.seen (search rules) in
    let same : c.meet.new.self ≡ pass = same_view pass c.meet.new.self met.0.0.0.0 met.0.0.0.1 seen in
    let here : IsAll pass next =
    ap (λ (es : List (Entry ℕ)). pushed_by next.pass.writer es) (sym seen ∙ (met.1.0 ∙ sym met.1.1))
    ∙ (ap (λ (a : ℕ). pushed_by a theirs.seen) (sym met.0.1.0.1) ∙ pushes_none next.pass theirs met.0.1.0.1 met.0.1.1 met.2.1) in (
      same ∙ was.0,
      grind (rules, common_steps),
      (λ k d below. let h = was.2 (k + 1) d in grind rules),
      (λ k d below. let h = was.3 (k + 1) d in grind rules),
      (λ later. subst (λ (p : View ℕ). All (IsAll p) all) (sym same)
          (was.4 (subst (All (IsAll pass)) (sym step.0) (All-cons (IsAll pass) next rest here (subst (λ (p : View ℕ). All (IsAll p) rest) same later))))),
      search rules,
    )
