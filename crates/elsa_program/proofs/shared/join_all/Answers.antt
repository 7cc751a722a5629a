use Rattle.std.proofs.Common.{rules, arith, ◌≡◌, ℕ, ◌+◌, ◌≤◌, ◌∙◌, List, [], ◌∷◌, ◌++◌, All, length, ap, subst, sym}
use Rattle.std.proofs.lemmas.List.Elements.{All-push}
use Rattle.elsa_lock_free.specs.declared.event.Entry.{Entry}
use Rattle.elsa_program.specs.declared.shared.Done.{Done}
use Rattle.elsa_program.specs.Workers.{Each, IsPromiseOf, IsWorkOf}
use Rattle.elsa_program.proofs.Passes.{continues_more, prefix_within}
use Rattle.elsa_program.proofs.Indices.{Each-push}
use Rattle.elsa_program.proofs.Pushed.{promised_work, work_stays}
use Rattle.elsa_program.proofs.shared.join_all.Goals as goal

-- The view of the next worker is merged, and its result is appended.
pub loop-handle-preserved : goal.loop-handle-preserved
loop-handle-preserved g c =
    let was = c.loop-handle.invariant in let step = c.in-Some.ensures.steps in let met = c.meet.ensures in
    let of = c.in-Some.handle.promise in let joined = c.join-next.result in let theirs = c.meet.new.other in
    let vector = c.args.pass.now.vector in let before = c.args.pass.now.seen in let done = c.loop-handle.done in
    let IsDone : ℕ → Done g.row.A.Denot → Type 0 = λ worker d. IsWorkOf vector before c.args._count worker d.pass d.fault in
    let IsWithin : Done g.row.A.Denot → Type 0 = λ d. length d.pass.seen ≤ length c.meet.new.self.seen in
    let promised : IsPromiseOf vector before c.args._count (length done.items) of.vector.now of.pass.now.seen of.count of.worker = let h = was.1 0 c.in-Some.handle in grind rules in
    let work : IsDone (length done.items) joined = promised_work vector of.vector.now before of.pass.now.seen c.args._count of.count (length done.items) of.worker joined.pass joined.fault promised c.join-next.ensures in
    let added : Done g.row.A.Denot = record { pass = theirs; fault = joined.fault } in
    let items : c.push.new.self.items ≡ done.items ++ added ∷ [] = search rules in
    let kept : IsDone (length done.items) added = work_stays vector before c.args._count (length done.items) joined.pass theirs joined.fault met.0.1.0 met.0.1.1 met.2.1 work in
    let grown : length c.loop-handle.pass.seen ≤ length c.meet.new.self.seen = prefix_within c.loop-handle.pass.seen c.meet.new.self.seen met.0.0.1 in
    let last : length theirs.seen ≤ length c.meet.new.self.seen = let h = ap (λ (es : List (Entry ℕ)). length es) (met.1.0 ∙ sym met.1.1) in omega arith in (
      search rules,
      (λ k d below. let h = was.1 (k + 1) d in grind rules),
      subst (Each IsDone) (sym items) (Each-push IsDone done.items added was.2 kept),
      subst (All IsWithin) (sym items) (All-push IsWithin done.items added (λ k d below. let h = was.3 k d below in omega (arith, grown)) last),
      continues_more c.args.pass.now c.loop-handle.pass c.meet.new.self was.4 (met.0.0.0, met.0.0.1, met.2.0),
      search rules,
      search rules,
    )
