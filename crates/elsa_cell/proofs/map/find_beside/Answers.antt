use Rattle.std.proofs.Common.{sym, ap, ◌∙◌}
use Rattle.std.specs.Option.{option_map}
use Rattle.elsa_cell.proofs.EntryLemmas.{value_at}
use Rattle.elsa_cell.proofs.map.find_beside.Goals as goal

pub returns-clause-value : goal.returns-clause-value
returns-clause-value g c =
    sym (value_at (g.Q.Seeks.finds c.args.query) c.args.entries.now.seen c.in_ok-index.index (sym c.in_ok-index.ensures) ∙ ap (option_map (λ e. e.value)) c.item.ensures.item)
