use Rattle.std.proofs.Common.{fold, subst, ◌∙◌}
use Rattle.elsa_lock_free.specs.SharedList.{View, items_of}
use Rattle.elsa_hash_index.specs.declared.entry.Entry.{Entry}
use Rattle.elsa_hash_index.specs.Entries.{EachIsNew, IsBehind}
use Rattle.elsa_lock_free_map.specs.Entries.{MayFollow, short}
use Rattle.elsa_lock_free_map.proofs.MapLemmas.{each_behind, each_first}
use Rattle.elsa_lock_free_map.proofs.handle.MapHandleShelf.obeys_rule.Goals as goal

pub returns : goal.returns
returns g c = subst (λ (w : View (Entry g.row.K.Denot g.row.V.Denot g.row.S.Denot)). EachIsNew (IsBehind g.K.PartialEq.eq (λ s k. short (g.S.Hasher.Hasher.finish (fold g.S.Hasher.Hasher.write (g.S.BuildHasher.build_hasher s) (g.K.Hash.hash_input k))))) (items_of w.seen)) (c.deref.ensures ∙ c.self.view_is)
    (each_behind g.K.PartialEq.eq (λ s k. short (g.S.Hasher.Hasher.finish (fold g.S.Hasher.Hasher.write (g.S.BuildHasher.build_hasher s) (g.K.Hash.hash_input k)))) (items_of c.deref.result.now.seen) (each_first (MayFollow g.K.PartialEq.eq (λ s k. short (g.S.Hasher.Hasher.finish (fold g.S.Hasher.Hasher.write (g.S.BuildHasher.build_hasher s) (g.K.Hash.hash_input k))))) (λ e. g.L.EntryRule.holds e.key e.value) c.deref.result.now.seen c.obeys_rule.ensures.entries))
