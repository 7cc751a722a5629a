use Rattle.std.proofs.Common.{nat_eq, ◌∙◌}
use Rattle.test_callers.proofs.of_maps.found_again.Goals as goal

-- What the evidence has is in what was observed since, and so in what the look-up has.
pub returns : goal.returns
returns c =
    let test = nat_eq c.args.key.now in
    c.get_as.ensures.found ∙ c.first_value_stays.ensures test c.args.seen.now.seen c.since-observed.result.seen c.args._value c.since-observed.ensures.items c.requires.found
