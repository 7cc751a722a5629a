use Rattle.std.proofs.Common.{◌+◌, ◌∷◌, drop, refl, sym, ap, arith, ◌∙◌}
use Rattle.std.proofs.Math.ListN.{drop_of_length-le}
use Rattle.std.proofs.lemmas.List.{drop_more}
use Rattle.std.proofs.lemmas.Result.{on_ok_weaker}
use Rattle.serde.specs.Event.{WritesEntry}
use Rattle.serde.proofs.Events.{WritesUpTo-start, WritesUpTo-more, WritesUpTo-all}
use Rattle.elsa_serde.proofs.stored.append_map.write_entries.Goals as goal

pub loop-entry-init : goal.loop-entry-init
loop-entry-init g c = WritesUpTo-start (WritesEntry g.K.Described.writes g.B.Described.writes) c.args.entries.now _ _ refl

pub loop-entry-preserved : goal.loop-entry-preserved
loop-entry-preserved g c =
    let es = c.args.entries.now in
    let i = c.loop-entry.entry-index in
    let step = drop_more es i c.entry-item.result c.loop-entry-test.true ∙ ap (λ p. p ∷ drop (i + 1) es) (sym c.entry-item.is) in
    WritesUpTo-more (WritesEntry g.K.Described.writes g.B.Described.writes) es _ _ c.entry-item.result _ _ _ c.loop-entry.invariant step c.in_ok-write_entry.ensures

pub returns : goal.returns
returns g c =
    let es = c.args.entries.now in
    let each = WritesUpTo-all (WritesEntry g.K.Described.writes g.B.Described.writes) es _ _ _ c.loop-entry.invariant (drop_of_length-le es (omega (arith, c.loop-entry-test.false))) in
    on_ok_weaker c.end_map.result (λ ended. (_, _, c.in_ok-begin_map.ensures, each, ended)) c.end_map.ensures
