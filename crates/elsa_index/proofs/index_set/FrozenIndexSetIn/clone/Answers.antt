use Rattle.std.proofs.Common.{◌≡◌, [], map, ap, ◌∙◌, subst}
use Rattle.std.specs.List.{IsDistinct}
use Rattle.std.specs.Map.Iter.{deref}
use Rattle.indexmap.proofs.SetLemmas.{drained_all, set_all_distinct}
use Rattle.indexmap.specs.IndexSet.{insert_all}
use Rattle.elsa_index.proofs.index_set.FrozenIndexSetIn.clone.Goals as goal

pub returns : goal.returns
returns g c =
    let ran = c.in_ok-extend.ensures.ran in
    let eq = g.T.Borrow.PartialEq.eq in
    let all : map deref ran.1 ≡ c.args.self.now = drained_all _ ran.1 ran.4 ∙ ran.2 ∙ c.iter.ensures.rest ∙ c.self.view_is in
    let distinct : IsDistinct eq c.args.self.now = subst (IsDistinct eq) c.self.view_is c.iter.ensures.unique in
    record { content = c.from_set.ensures.content ∙ ran.3.0 ∙ ap (λ s. insert_all eq s (map deref ran.1)) c.with_hasher-set.ensures.empty ∙ ap (insert_all eq []) all ∙ set_all_distinct g.met.T.Borrow.Eq.laws [] c.args.self.now distinct }
