use Rattle.std.proofs.Common.{List, sym, ap, ◌∙◌}
use Rattle.std.specs.Map.{lookup}
use Rattle.std.specs.Option.{option_map}
use Rattle.elsa_cell.specs.Entries.{pairs_of}
use Rattle.elsa_cell.specs.declared.map.Entry.{Entry}
use Rattle.elsa_cell.proofs.EntryLemmas.{value_at}
use Rattle.elsa_cell.proofs.map_hold.FrozenHold.find.Goals as goal

pub returns-clause-value : goal.returns-clause-value
returns-clause-value g c =
    let test = g.Q.Seeks.finds c.args.query in let es = c.self.inside.observed.seen in
    let s = ap (λ (l : List (Entry g.row.K.Denot g.row.V.Denot)). lookup test (pairs_of l)) (ap (λ v. v.seen) c.self.view_is) in
    sym (sym s ∙ (value_at test es c.in_ok-index.index (sym c.in_ok-index.ensures) ∙ ap (option_map (λ e. e.value)) c.item.ensures.item))
