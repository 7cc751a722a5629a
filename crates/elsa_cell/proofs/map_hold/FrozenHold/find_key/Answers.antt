use Rattle.std.proofs.Common.{List, sym, ap, ◌∙◌}
use Rattle.std.specs.Map.{lookup}
use Rattle.std.specs.Option.{option_map}
use Rattle.elsa_cell.specs.Entries.{pairs_of}
use Rattle.elsa_cell.specs.declared.map.Entry.{Entry}
use Rattle.elsa_cell.proofs.EntryLemmas.{value_at}
use Rattle.elsa_cell.proofs.map_hold.FrozenHold.find_key.Goals as goal

pub returns-in-Ok-clause-value : goal.returns-in-Ok-clause-value
returns-in-Ok-clause-value g c =
    let test = g.T.Indices.same c.args.key.now in let es = c.self.inside.observed.seen in
    let s = ap (λ (l : List (Entry g.row.K.Denot g.row.V.Denot)). lookup test (pairs_of l)) (ap (λ v. v.seen) c.self.view_is) in
    sym (sym s ∙ (value_at test es c.in-Ok.present c.in-Ok.ensures.found ∙ ap (option_map (λ e. e.value)) c.item.ensures.item))
