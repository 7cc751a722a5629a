use Rattle.std.proofs.Common.{[], subst, sym, vec_items}
use Rattle.elsa_cell.specs.Ordered.{IsTableFor}
use Rattle.elsa_cell.proofs.BlockLemmas.{table_none}
use Rattle.elsa_cell.proofs.ordered.FrozenBTreeMap+K+V+A+R.with_rule.Goals as goal

pub over-requires : goal.over-requires
over-requires g c =
    subst (λ n. IsTableFor vec_items g.K.Ord.cmp c.new.result.blocks.items n []) (sym c.new.ensures.count)
    (subst (λ l. IsTableFor vec_items g.K.Ord.cmp l 0 []) (sym c.new.ensures.empty) (table_none vec_items g.K.Ord.cmp))
