use Rattle.std.proofs.Common.{ap, ◌∙◌}
use Rattle.std.specs.Map.{lookup_key}
use Rattle.elsa_maps.proofs.Contents.{both, entry_found}
use Rattle.elsa_maps.proofs.map.frozen.Frozen.get_key_value.Goals as goal

pub returns-in-Some : goal.returns-in-Some
returns-in-Some g c =
    let test = g.Q.Seeks.finds c.args.query in
    let entries = g.T.Table.entries c.self.inside.table in
    rw (← c.self.view_is) ((λ i. both (c.in-Some.ensures.found_key i) (c.in-Some.ensures.value i)) ∙ entry_found test entries)

pub returns-in-None : goal.returns-in-None
returns-in-None g c =
    let test = g.Q.Seeks.finds c.args.query in
    let entries = g.T.Table.entries c.self.inside.table in
    rw (← c.self.view_is) (ap (both (lookup_key test entries)) c.in-None.ensures.value ∙ entry_found test entries)
