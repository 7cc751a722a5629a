use Rattle.std.proofs.Common.{refl}
use Rattle.std_collections.proofs.IndexTableLemmas.Bits.{bit_trailing_zeros}
use Rattle.elsa_buckets.proofs.groups.first_of.Goals as goal

pub returns : goal.returns
returns c = record { value = refl; set = bit_trailing_zeros 32 c.args.bits c.requires c.ranges.bits.fits }
