use Rattle.std.proofs.Common.{◌≡◌, rules, arith}
use Rattle.std_collections.proofs.IndexTableLemmas.Bits.{tag_from_match, match_from_tag}
use Rattle.elsa_buckets.specs.Groups.{tag_in}
use Rattle.elsa_buckets.proofs.GroupLemmas.{lowest_has, none_has}
use Rattle.elsa_buckets.proofs.groups.Group.first_with.Goals as goal

pub returns : goal.returns
returns c =
    let tags = c.args.self.now.tags in
    let tag = c.args.tag in
    record {
      found = lowest_has _ (omega arith) (λ k. tag_in c.args.self.now k ≡ tag) (tag_from_match tags tag (search rules)) (match_from_tag tags tag (search rules));
      absent = none_has _ (omega arith) (λ k. tag_in c.args.self.now k ≡ tag) (tag_from_match tags tag (search rules)) (match_from_tag tags tag (search rules));
    }
