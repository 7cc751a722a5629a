use Rattle.std.proofs.Common.{rules}
use Rattle.elsa_hash_index.proofs.MaskLemmas.{lane_of_bit, bit_of_lane}
use Rattle.elsa_hash_index.proofs.probe.lanes_with.Goals as goal

pub returns : goal.returns
returns c = record { only = lane_of_bit c.args.tags c.args.tag (search rules); all = bit_of_lane c.args.tags c.args.tag (search rules) }
