use Rattle.elsa_maps.proofs.Extending.{appends_more, holds_first_more}
use Rattle.elsa_maps.proofs.map.frozen.Frozen.insert_all.Goals as goal

pub loop-pair-preserved : goal.loop-pair-preserved
loop-pair-preserved g c =
    let eq = g.T.Table.same in
    let target = g.V.HasTarget.target in
    let shown = g.V.HasTarget.shown in
    let laws = g.met.T.Table.equivalence in
    let old = c.args.self.now in
    let es = c.loop-pair.self in
    let fs = c.insert.new.self in
    let pairs = c.loop-pair.yielded in
    let key = c.in-Some.pair.0 in
    let value = c.in-Some.pair.1 in
    let borrow = c.in_ok-insert.field-0 in
    let done = c.in_ok-insert.ensures in
    let before = c.loop-pair.invariant in
    record {
      firsts = holds_first_more eq target shown laws old es fs pairs key value (λ x is. (done.present x is).1) before.firsts (λ none. (borrow, done.added none));
      appended = λ last. appends_more eq target shown laws old es fs pairs key value (λ x is. (done.present x is).1) (before.appended last) (λ none. (borrow, (done.added none).0, last es key borrow fs (done.new_entry none)));
    }
