use Rattle.std.proofs.Common.{◌≡◌, true}
use Rattle.elsa_serde.specs.Loaded.{AddsPair}
use Rattle.elsa_serde.specs.Read.{InTurn}
use Rattle.elsa_serde.proofs.Back.{map_back}
use Rattle.elsa_serde.proofs.Content.{at_success, content_back, order_back}
use Rattle.elsa_serde.proofs.laws.map_comes_back.Goals as goal

pub returns-clause-same : goal.returns-clause-same
returns-clause-same g c = λ success old new wrote only.
    let entries = c.in-Ok.entries.0.items in
    let inserted = at_success c.insert_into.result (InTurn (AddsPair g.M.MapForm.same g.M.Value.HasTarget.target g.M.Value.HasTarget.shown g.M.MapForm.extends) (g.M.MapForm.entries c.args.read.now) entries (g.M.MapForm.entries c.insert_into.new.map)) c.is_ok.result c.is_ok.ensures.value success c.insert_into.ensures.inserted in
    let back = map_back g.M.Key.ReadItem.events g.M.Key.Described.writes (λ read key. g.M.MapForm.same key read ≡ true) c.requires.keys
    g.M.Value.ReadItem.events g.M.Value.Borrow.Described.writes (λ v b. g.M.Value.HasTarget.target v ≡ g.M.Value.HasTarget.shown b) c.requires.values g.F.Format.gives g.F.Format.stays
    entries (g.M.MapForm.entries c.args.map.now) old new c.args.from.now c.deserialize_owned.new.from wrote (c.in-Ok.ensures.whole c.requires.known.0 c.requires.known.1) only in
    content_back g.M.MapForm.same c.len-count.ensures.equivalence g.M.Value.HasTarget.target g.M.Value.HasTarget.shown g.M.MapForm.extends entries (g.M.MapForm.entries c.args.map.now) (g.M.MapForm.entries c.args.read.now) (g.M.MapForm.entries c.insert_into.new.map)
    c.requires.empty c.len-count.ensures.distinct back inserted

pub returns-clause-in_order : goal.returns-clause-in_order
returns-clause-in_order g c = λ success old new last wrote only.
    let entries = c.in-Ok.entries.0.items in
    let inserted = at_success c.insert_into.result (InTurn (AddsPair g.M.MapForm.same g.M.Value.HasTarget.target g.M.Value.HasTarget.shown g.M.MapForm.extends) (g.M.MapForm.entries c.args.read.now) entries (g.M.MapForm.entries c.insert_into.new.map)) c.is_ok.result c.is_ok.ensures.value success c.insert_into.ensures.inserted in
    let back = map_back g.M.Key.ReadItem.events g.M.Key.Described.writes (λ read key. g.M.MapForm.same key read ≡ true) c.requires.keys
    g.M.Value.ReadItem.events g.M.Value.Borrow.Described.writes (λ v b. g.M.Value.HasTarget.target v ≡ g.M.Value.HasTarget.shown b) c.requires.values g.F.Format.gives g.F.Format.stays
    entries (g.M.MapForm.entries c.args.map.now) old new c.args.from.now c.deserialize_owned.new.from wrote (c.in-Ok.ensures.whole c.requires.known.0 c.requires.known.1) only in
    order_back g.M.MapForm.same g.M.Value.HasTarget.target g.M.Value.HasTarget.shown g.M.MapForm.extends last entries (g.M.MapForm.entries c.args.map.now) (g.M.MapForm.entries c.args.read.now)
    (g.M.MapForm.entries c.insert_into.new.map) c.requires.empty back inserted
