use Rattle.std.proofs.Common.{◌/◌, ◌%◌, ◌^◌, ap, ◌∙◌}
use Rattle.std.specs.Prelude.{bit_xor}
use Rattle.std.proofs.lemmas.Nat.{and_mask}
use Rattle.elsa_buckets.specs.Placed.{key_hash}
use Rattle.elsa_buckets.proofs.query.hash_of.Goals as goal

pub returns : goal.returns
unfolding key_hash
returns g c = and_mask _ 32 ∙ ap (λ n. bit_xor n (n / 2 ^ 32) % 2 ^ 32) c.hash_one-hash.ensures
