use Rattle.std.proofs.Common.{rules, arith, ◌≡◌, ℕ, ◌∙◌, List, [], ◌∷◌, ◌++◌, length, ap, subst, sym}
use Rattle.core.specs.declared.thread.PromisedHandle.{PromisedHandle}
use Rattle.elsa_lock_free.specs.declared.event.Entry.{Entry}
use mathlib.Core.List.{IsPrefix}
use Rattle.elsa_lock_free.specs.SharedList.{Vector, View, pushed_by}
use Rattle.elsa_program.specs.declared.shared.Done.{Done}
use Rattle.elsa_program.specs.declared.shared.WorkOf.{WorkOf}
use Rattle.elsa_program.specs.Workers.{Each, IsPromiseOf, IsWorkOf}
use Rattle.elsa_program.proofs.Indices.{Each-push}
use Rattle.elsa_lock_free.proofs.Pushed.{nothing_pushed}
use Rattle.elsa_program.proofs.shared.fn.run_workers.scope.Goals as goal
use Rattle.elsa_program.proofs.shared.fn.run_workers.scope.Goals.{else-loop-worker-test, then-loop-worker-test+in_default}

-- What `work` ensures for its view is what the thread's promise requires.
pub spawn_scoped_with-requires-clause-keeps : goal.spawn_scoped_with-requires-clause-keeps
spawn_scoped_with-requires-clause-keeps g c κs within done did =
    let theirs = c.begin-theirs.result in let made = c.begin-theirs.ensures in let begun = c.captures.begun.now.seen in
    let seen : theirs.seen ≡ begun = made.seen ∙ c.loop-worker.invariant.1 in
    let none : pushed_by theirs.writer begun ≡ [] = ap (λ (es : List (Entry ℕ)). pushed_by theirs.writer es) (sym seen) ∙ nothing_pushed theirs.writer theirs.seen made.nothing_mine in
    let vector = c.captures.vector.now in let count = c.captures.count in let of = c.promise_of-promise.ensures in
    let kept : IsWorkOf vector begun count c.loop-worker.worker done.pass done.fault = (did.0.0 ∙ made.same_vector, ap (λ (a : ℕ). pushed_by a begun) did.0.1 ∙ none, did.1) in
    rw (of.0, of.1, of.2, of.3) kept

-- Another worker was started.
pub loop-worker-preserved : goal.loop-worker-preserved
loop-worker-preserved g c =
    let was = c.loop-worker.invariant in let started = c.loop-worker.started in let made = c.in-Ok.ensures.ok in let of = c.promise_of-promise.ensures in
    let Handle : Type 0 = PromisedHandle (Done g.row.A.Denot) (WorkOf g.row.A.Denot) in
    let IsFor : ℕ → Handle → Type 0 = λ worker h. IsPromiseOf c.captures.vector.now c.captures.begun.now.seen c.captures.count worker h.promise.vector.now h.promise.pass.now.seen h.promise.count h.promise.worker in
    let items : c.push.new.self.items ≡ started.items ++ c.in-Ok.child ∷ [] = search rules in
    let here : IsFor (length started.items) c.in-Ok.child = (ap (λ (w : WorkOf g.row.A.Denot). w.vector.now) made ∙ of.0, ap (λ (w : WorkOf g.row.A.Denot). w.pass.now.seen) made ∙ of.1, ap (λ (w : WorkOf g.row.A.Denot). w.count) made ∙ of.2, ap (λ (w : WorkOf g.row.A.Denot). w.worker) made ∙ (of.3 ∙ search rules)) in (
      search rules,
      search rules,
      search rules,
      search rules,
      subst (Each IsFor) (sym items) (Each-push IsFor started.items c.in-Ok.child was.4 here),
    )

-- After any number of started workers, the view has the observed prefix of the beginning.
pub add_unstarted-done-requires : goal.add_unstarted-done-requires
add_unstarted-done-requires g c =
    let was = c.loop-worker.invariant in let joined = c.join_all-done.ensures in let longest = c.loop-worker-test.longest in
    let vector = c.captures.vector.now in let begun = c.captures.begun.now.seen in let now = c.join_all-done.new.pass in
    let IsDone : Vector → List (Entry ℕ) → Type 0 = λ v es. Each (λ worker (d : Done g.row.A.Denot). IsWorkOf v es c.captures.count worker d.pass d.fault) c.join_all-done.result.items in
    let same : (longest.vector ≡ vector) × (longest.seen ≡ begun) = elim c.loop-worker-test.branch [
      | else-loop-worker-test w ↦ (ap (λ (p : View ℕ). p.vector) w.longest-is ∙ was.0, ap (λ (p : View ℕ). p.seen) w.longest-is ∙ was.1)
      | then-loop-worker-test+in_default w ↦ (let e = w.longest-is ∙ w.begin-theirs.ensures.same in (ap (λ (p : View ℕ). p.vector) e ∙ was.0, ap (λ (p : View ℕ). p.seen) e ∙ was.1))
    ] in
    record {
      same_vector = joined.continues.0.0 ∙ same.0;
      begun = subst (λ (es : List (Entry ℕ)). IsPrefix es now.seen) same.1 joined.continues.1;
      work = subst (λ (es : List (Entry ℕ)). IsDone vector es) same.1 (subst (λ (v : Vector). IsDone v longest.seen) same.0 joined.work);
      seen = joined.seen;
      room = (omega arith, omega arith);
    }
