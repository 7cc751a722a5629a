use Rattle.std.proofs.Common.{ap, fold}
use Rattle.elsa_lock_free_map.specs.Entries.{short}
use Rattle.elsa_lock_free_map.proofs.handle.MapHandle.seen_find.Goals as goal

pub lookup-requires : goal.lookup-requires
lookup-requires g c = record {
  lawful = λ s key is. ap (λ input. short (g.S.Hasher.Hasher.finish (fold g.S.Hasher.Hasher.write (g.S.BuildHasher.build_hasher s) input))) (g.met.Q.Equivalent.respects_hash c.args.query key is);
}
