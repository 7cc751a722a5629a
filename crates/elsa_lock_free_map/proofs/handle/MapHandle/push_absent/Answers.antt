use Rattle.std.proofs.Common.{◌++◌, ◌∷◌, [], length, ap, ◌∙◌}
use Rattle.elsa_lock_free.specs.SharedList.{entry, mine}
use Rattle.elsa_lock_free_map.proofs.handle.MapHandle.push_absent.Goals as goal

pub returns-clause-pushed : goal.returns-clause-pushed
returns-clause-pushed g c =
    let up = c.in_ok-publish_new.ensures.pushed.1 in
    let all = c.in-Some.ensures.held.0 ∙ c.self.view_is in (
      c.seen_len-n.ensures.length ∙ ap (λ w. length w.seen) (c.deref.ensures ∙ c.self.view_is),
      (up.0, up.1, up.2, (up.3.0 ∙ ap (λ h. h.seen ++ entry h.writer up.0 ∷ []) all, up.3.1 ∙ ap (λ h. mine h ++ length h.seen ∷ []) all)),
    )
