use Rattle.std.proofs.Common.{sym, subst, ◌∙◌}
use mathlib.Core.List.{IsPrefix}
use Rattle.elsa_lock_free.proofs.pass.Pass.meet.Goals as goal

pub returns : goal.returns
returns g c = let m = c.met-one.ensures in
    rw (sym c.replace-one.ensures.value, sym c.replace-two.ensures.value, c.replace.ensures.after, c.replace-2.ensures.after) (
      ((m.same.0, m.seen.0), (m.same.1, m.seen.1)),
      m.longer,
      m.mine,
      m.apart,
      (subst (IsPrefix c.replace-two.result.seen) (m.longer.1 ∙ sym m.longer.0) m.seen.1, subst (IsPrefix c.replace-one.result.seen) (m.longer.0 ∙ sym m.longer.1) m.seen.0),
    )
