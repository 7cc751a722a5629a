use Rattle.std.proofs.Common.{fold}
use Rattle.elsa_lock_free.specs.SharedList.{items_of}
use Rattle.elsa_hash_index.specs.Entries.{keys_of}
use Rattle.elsa_lock_free.proofs.RuleLemmas.EachNew.{one_to_one}
use Rattle.elsa_lock_free_map.specs.Entries.{MayFollow, short}
use Rattle.elsa_lock_free_map.proofs.MapLemmas.{each_first, keys_are_new}
use Rattle.elsa_lock_free_map.proofs.entries.one_to_one.Goals as goal

pub returns : goal.returns
returns g c =
    let es = items_of c.args.pass.now.seen in
    let new = keys_are_new g.K.PartialEq.eq (λ s k. short (g.S.Hasher.Hasher.finish (fold g.S.Hasher.Hasher.write (g.S.BuildHasher.build_hasher s) (g.K.Hash.hash_input k)))) es (each_first (MayFollow g.K.PartialEq.eq (λ s k. short (g.S.Hasher.Hasher.finish (fold g.S.Hasher.Hasher.write (g.S.BuildHasher.build_hasher s) (g.K.Hash.hash_input k))))) (λ e. g.L.EntryRule.holds e.key e.value) c.args.pass.now.seen c.obeys_rule.ensures.entries) in
    one_to_one g.K.PartialEq.eq g.met.K.Eq.laws.symm (keys_of es) new
