use Rattle.std.proofs.Common.{List, length, map, arith, ap, subst, sym, ◌∙◌}
use Rattle.elsa_cell.specs.Entries.{key_of}
use Rattle.elsa_arena.specs.Observed.{IsStateOf}
use Rattle.elsa_cell.specs.declared.map.Entry.{Entry}
use Rattle.elsa_cell.proofs.map.Frozen.over.Goals as goal

-- The first state has no entry, and its table no index.
pub park-requires : goal.park-requires
park-requires g c = let none = ap length c.first.ensures.empty in record {
  state = (
    subst (λ names. IsStateOf names c.first.result) (c.in_ok-entries.ensures.rights ∙ sym c.tag-tag.ensures) c.first.ensures.same_vector,
    subst (λ (es : List (Entry g.row.K.Denot g.row.V.Denot)). g.T.Indices.is_for c.args.table (map key_of es)) (sym c.first.ensures.empty) c.requires,
    omega (arith, none),
  );
  empty = c.first.ensures.empty;
}
