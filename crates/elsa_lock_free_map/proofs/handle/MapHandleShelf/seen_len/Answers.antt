use Rattle.std.proofs.Common.{◌≡◌, ◌∙◌, length, fold, ap, sym, subst, arith}
use Rattle.std.proofs.lemmas.List.{length-map}
use Rattle.elsa_hash_index.specs.Entries.{EachIsNew}
use Rattle.elsa_lock_free.specs.SharedList.{View, item_of, items_of}
use Rattle.elsa_hash_index.specs.declared.entry.Entry.{Entry}
use Rattle.elsa_lock_free_map.specs.Entries.{MayFollow, short}
use Rattle.elsa_lock_free_map.proofs.MapLemmas.{each_first, few}
use Rattle.elsa_lock_free_map.proofs.handle.MapHandleShelf.seen_len.Goals as goal

pub returns : goal.returns
returns g c =
    let seen = c.args.self.now.seen in let l = length-map seen item_of in
    let n : c.seen_len.result ≡ length seen = c.seen_len.ensures.length ∙ ap (λ w. length w.seen) (c.deref-2.ensures ∙ c.self.view_is) in
    let rule = subst (λ (w : View (Entry g.row.K.Denot g.row.V.Denot g.row.S.Denot)). EachIsNew (MayFollow g.K.PartialEq.eq (λ s k. short (g.S.Hasher.Hasher.finish (fold g.S.Hasher.Hasher.write (g.S.BuildHasher.build_hasher s) (g.K.Hash.hash_input k))))) (items_of w.seen)) (c.deref.ensures ∙ c.self.view_is) (each_first (MayFollow g.K.PartialEq.eq (λ s k. short (g.S.Hasher.Hasher.finish (fold g.S.Hasher.Hasher.write (g.S.BuildHasher.build_hasher s) (g.K.Hash.hash_input k))))) (λ e. g.L.EntryRule.holds e.key e.value) _ c.obeys_rule.ensures.entries) in
    let low = few g.K.PartialEq.eq (λ s k. short (g.S.Hasher.Hasher.finish (fold g.S.Hasher.Hasher.write (g.S.BuildHasher.build_hasher s) (g.K.Hash.hash_input k)))) (items_of seen) rule in
    (n ∙ sym l, omega (arith, low, l, n))
