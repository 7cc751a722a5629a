use Rattle.std.proofs.Common.{◌∙◌}
use Rattle.elsa_cell.proofs.EntryLemmas.{prefix_trans}
use Rattle.elsa_cell.proofs.FirstsLemmas.{firsts_more}
use Rattle.elsa_cell.proofs.map_hold.FrozenHold.extend.Goals as goal

-- The pair came from the iterator.
pub insert_new-requires : goal.insert_new-requires
insert_new-requires g c = record {
  rule = c.requires.rule c.into_iter-pair-iterator.result c.into_iter-pair-iterator.ensures.into_iter_gives c.loop-pair.yielded c.in-Some.pair.0 c.in-Some.pair.1 c.next.new.self (c.loop-pair.pair-iterator, c.loop-pair.yielded_by, c.in-Some.ensures.steps);
}

-- Another pair.
pub loop-pair-preserved : goal.loop-pair-preserved
loop-pair-preserved g c =
    let before = c.loop-pair.invariant in let old = c.args.self.now.seen in let es = c.loop-pair.self.seen in let fs = c.insert_new.new.self.seen in
    let put = c.in_ok-_inserted._inserted in
    record {
      continues = record {
        same = c.insert_new.ensures.continues.same ∙ before.continues.same;
        seen = prefix_trans old es fs before.continues.seen c.insert_new.ensures.continues.seen;
      };
      firsts = firsts_more g.T.Indices.same g.met.T.Indices.equivalence old es c.loop-pair.yielded c.in-Some.pair.0 c.in-Some.pair.1 before.firsts fs put.value.now put.index put.is_new c.in_ok-_inserted.ensures.inserted;
    }
