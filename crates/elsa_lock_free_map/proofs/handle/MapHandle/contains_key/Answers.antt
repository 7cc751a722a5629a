use Rattle.std.proofs.Common.{sym, ◌∙◌}
use Rattle.elsa_lock_free_map.proofs.MapLemmas.{some_has}
use Rattle.elsa_lock_free_map.proofs.handle.MapHandle.contains_key.Goals as goal

pub returns-clause-present : goal.returns-clause-present
returns-clause-present g c is =
    let found = some_has c.get_ref.result _ c.get_ref.ensures.found (sym c.is_some.ensures ∙ is) in
    (found.0.now, found.1)
