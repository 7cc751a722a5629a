use Rattle.std.proofs.Common.{◌≡◌, ◌∙◌, subst, sym}
use Rattle.std.proofs.lemmas.Iterator.{items_from_drains}
use Rattle.std.proofs.lemmas.Iterator.Adapters.{YieldsList-from_vec}
use Rattle.std.proofs.lemmas.Result.{on_ok_weaker}
use Rattle.std.specs.Vec.Iter.{into_iter_steps}
use Rattle.elsa_vec.specs.Vec.{GainsAll}
use Rattle.std.proofs.lemmas.List.{map-id}
use Rattle.elsa_serde.proofs.items.Items.push_into.Goals as goal

pub returns-clause-pushed : goal.returns-clause-pushed
returns-clause-pushed g c =
    on_ok_weaker c.extend.result
    (λ done.
    let start = done.2 in
    let same : done.1 ≡ c.args.self.0.items = sym (map-id done.1) ∙ items_from_drains {steps = into_iter_steps} {v = λ y. y} {s = done.0} done.1 (let drained = done.3 in (drained.1.0, drained.1.1, λ _. (drained.0, drained.1.2))) (YieldsList-from_vec {s = done.0} c.args.self.0.items start.0 (start.1 ∙ c.args.self.0.ok.0)) in
    subst (λ given. GainsAll g.T.HasTarget.target g.T.HasTarget.shown c.args.vec.now given c.extend.new.self) same done.4)
    c.extend.ensures.extended
