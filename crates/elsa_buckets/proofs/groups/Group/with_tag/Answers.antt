use Rattle.std.proofs.Common.{rules}
use Rattle.std_collections.proofs.IndexTableLemmas.Bits.{tag_from_match, match_from_tag}
use Rattle.elsa_buckets.proofs.groups.Group.with_tag.Goals as goal

pub returns : goal.returns
returns c = record { only = tag_from_match c.args.self.now.tags c.args.tag (search rules); all = match_from_tag c.args.self.now.tags c.args.tag (search rules) }
