use Rattle.std.proofs.Common.{◌∷◌, drop, ap, sym, ◌∙◌, add-one}
use Rattle.elsa_lock_free_map.specs.Entries.{pairs_of}
use Rattle.elsa_lock_free_map.proofs.MapLemmas.{pair_at}
use Rattle.elsa_lock_free_map.proofs.iter.MapIter.next_entry.Goals as goal

pub returns : goal.returns
returns g c =
    let it = c.self.inside in let es = it.entries in let e = c.item-entry.result.now in
    sym c.self.view_is ∙ (pair_at es it.index e c.item-entry.ensures ∙ ap (λ k. (e.key, e.value) ∷ drop k (pairs_of es)) (sym (add-one it.index)))
