use Rattle.elsa_maps.specs.FirstWins.{value_at}
use Rattle.elsa_maps.proofs.Contents.{inserts_alike}
use Rattle.elsa_maps.proofs.map.laws.inserted_apart.Goals as goal

pub returns-clause-copy : goal.returns-clause-copy
returns-clause-copy g c =
    let same = g.M.MapForm.same in
    let entries = g.M.MapForm.entries in
    let done = c.in_ok-insert-2.ensures in
    inserts_alike same g.M.Value.HasTarget.target g.M.Value.HasTarget.shown (value_at same (entries c.args.map.now)) (entries c.args.copy) (entries c.insert-2.new.self) c.args.other.0 c.args.other.1 c.in_ok-insert-2.field-0 c.requires.alike (λ x had. (done.present x had).1) done.added
