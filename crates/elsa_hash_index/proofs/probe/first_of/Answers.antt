use Rattle.std.proofs.Common.{refl}
use Rattle.std_collections.proofs.IndexTableLemmas.Bits.{bit_trailing_zeros}
use Rattle.elsa_hash_index.proofs.probe.first_of.Goals as goal

pub returns : goal.returns
returns c = record { value = refl; set = bit_trailing_zeros 64 c.args.bits c.requires c.ranges.bits.fits }
