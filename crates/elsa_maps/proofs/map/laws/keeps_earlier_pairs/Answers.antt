use Rattle.elsa_maps.proofs.Appended.{insert_flag, insert_grows, insert_last}
use Rattle.elsa_maps.proofs.map.laws.keeps_earlier_pairs.Goals as goal

pub returns-clause-kept : goal.returns-clause-kept
returns-clause-kept g c =
    let done = c.insert_new.ensures in
    insert_grows g.K.PartialEq.eq c.args.map.now c.insert_new.new.self c.args.key c.insert_new.result done.present done.new_entry done.refused

pub returns-clause-flag : goal.returns-clause-flag
returns-clause-flag g c =
    let done = c.insert_new.ensures in
    insert_flag g.K.PartialEq.eq c.args.map.now c.insert_new.new.self c.args.key c.insert_new.result done.present done.new_entry _ done.added

pub returns-clause-grows : goal.returns-clause-grows
returns-clause-grows g c =
    let done = c.insert_new.ensures in
    insert_last g.K.PartialEq.eq c.args.map.now c.insert_new.new.self c.args.key c.insert_new.result done.present done.new_entry
