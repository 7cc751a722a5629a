use Rattle.std.proofs.Common.{◌≡◌, ◌++◌, ◌∷◌, [], IfSome, length, ap, subst, ◌∙◌}
use Rattle.elsa_lock_free.specs.SharedList.{SeesAlike, entry, mine}
use Rattle.elsa_lock_free_map.proofs.handle.MapHandle.try_push_absent.Goals as goal

pub returns-in-Ok-clause-pushed : goal.returns-in-Ok-clause-pushed
returns-in-Ok-clause-pushed g c =
    let up = c.in-Ok.ensures.pushed.1 in
    let held = subst (λ o. IfSome o (λ h. (c.try_hold.new.self ≡ c.self.inside.list) × SeesAlike h c.self.inside.list)) c.in-Ok-Some.field-0-is c.in-Ok-Some.ensures.held in
    let all = held.0 ∙ c.self.view_is in (
      c.seen_len-n.ensures.length ∙ ap (λ w. length w.seen) (c.deref.ensures ∙ c.self.view_is),
      (up.0, up.1, up.2, (up.3.0 ∙ ap (λ h. h.seen ++ entry h.writer up.0 ∷ []) all, up.3.1 ∙ ap (λ h. mine h ++ length h.seen ∷ []) all)),
    )
