use Rattle.std.proofs.Common.{subst, sym}
use Rattle.std.proofs.lemmas.Result.{IfOk-weaker}
use mathlib.Core.List.{IsPrefix}
use Rattle.elsa_cell.specs.Entries.{Inserts}
use Rattle.elsa_cell.proofs.EntryLemmas.{prefix_trans}
use Rattle.elsa_cell.proofs.map.Frozen.insert_new_as.Goals as goal

pub returns-clause-continues : goal.returns-clause-continues
returns-clause-continues g c = record {
  same = c.release.ensures.same;
  seen = subst (λ xs. IsPrefix c.args.observed.now.seen xs) (sym c.release.ensures.seen) (prefix_trans c.args.observed.now.seen c.in-Ok.hold.seen c.insert_new-inserted.new.self.seen c.in-Ok.ensures.items c.insert_new-inserted.ensures.continues.seen);
}

pub returns-clause-inserted : goal.returns-clause-inserted
returns-clause-inserted g c =
    let all = c.in-Ok.hold.seen in
    IfOk-weaker c.insert_new-inserted.result _ _ (λ r i. (all, c.in-Ok.ensures.items, subst (λ xs. Inserts g.T.Indices.same all xs c.args.key c.args.value r.value.now r.index r.is_new) (sym c.release.ensures.seen) i)) c.insert_new-inserted.ensures.inserted
