use Rattle.elsa_maps.proofs.Contents.{insert_flag, insert_keeps}
use Rattle.elsa_maps.proofs.map.laws.keeps_earlier_values.Goals as goal

pub returns-clause-kept : goal.returns-clause-kept
returns-clause-kept g c =
    let done = c.insert_new.ensures in
    insert_keeps g.M.MapForm.same c.len.ensures.equivalence g.M.Value.HasTarget.target g.M.Value.HasTarget.shown (g.M.MapForm.entries c.args.map.now) (g.M.MapForm.entries c.insert_new.new.self) c.args.key c.args.value c.insert_new.result done.present done.added done.refused

pub returns-clause-flag : goal.returns-clause-flag
returns-clause-flag g c =
    let done = c.insert_new.ensures in
    insert_flag g.M.MapForm.same c.len.ensures.equivalence g.M.Value.HasTarget.target g.M.Value.HasTarget.shown (g.M.MapForm.entries c.args.map.now) (g.M.MapForm.entries c.insert_new.new.self) c.args.key c.args.value c.insert_new.result done.present done.added
