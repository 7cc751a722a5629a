use Rattle.std.proofs.lemmas.Nat.{and_mask}
use Rattle.elsa_interner.specs.Names.{text_hash}
use Rattle.elsa_interner.proofs.names.name_hash.Goals as goal

pub returns : goal.returns
unfolding text_hash
returns g c = rw (c.finish-hash.ensures, c.write.ensures, c.build_hasher-hasher.ensures, c.as_bytes.ensures.value) (and_mask _ 32)
