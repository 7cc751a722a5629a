use Rattle.std.proofs.Common.{fold}
use Rattle.elsa_lock_free_map.specs.Entries.{MayFollow, short}
use Rattle.elsa_lock_free_map.proofs.MapLemmas.{each_holds}
use Rattle.elsa_lock_free_map.proofs.entries.all_obey.Goals as goal

pub returns : goal.returns
returns g c = each_holds (MayFollow g.K.PartialEq.eq (λ s k. short (g.S.Hasher.Hasher.finish (fold g.S.Hasher.Hasher.write (g.S.BuildHasher.build_hasher s) (g.K.Hash.hash_input k))))) (λ e. g.L.EntryRule.holds e.key e.value) c.args.pass.now.seen c.obeys_rule.ensures.entries
