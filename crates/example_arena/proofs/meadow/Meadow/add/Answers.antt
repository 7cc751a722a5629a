use Rattle.std.proofs.Common.{rules, ◌≡◌, arith}
use Rattle.std.proofs.lemmas.Grind.{common_steps}
use Rattle.example_arena.proofs.Last.{last_shows}
use Rattle.example_arena.proofs.meadow.Meadow.add.Goals as goal

pub returns-clause-friends : goal.returns-clause-friends
returns-clause-friends c =
    let placed : c.get_unchecked-friends.result.now ≡ c.args.friends.items = grind (arith, common_steps, last_shows) in
    search rules
