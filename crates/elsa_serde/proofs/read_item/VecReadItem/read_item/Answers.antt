use Rattle.std.proofs.Common.{◌≡◌, ◌++◌, ◌∷◌, [], None, rules}
use Rattle.serde.specs.Event.{seq_begins, seq_ends}
use Rattle.elsa_serde.specs.Read.{events_of_each}
use Rattle.elsa_serde.proofs.Reading.{reads_begin, reads_item, reads_look, reads_one, reads_then}
use Rattle.elsa_serde.proofs.read_item.VecReadItem.read_item.Goals as goal

pub loop-init : goal.loop-init
loop-init g c = λ _. reads_begin g.F.Format.gives g.F.Format.stays g.T.ReadItem.events (seq_begins None) _ c.args.from.now c.begin_seq.new.self c.new-items.ensures.items c.in_ok-begin_seq.ensures

pub returns-then-not-branch : goal.returns-then-not-branch
returns-then-not-branch g c = record {
  whole = λ known. reads_then g.F.Format.gives g.F.Format.stays c.args.from.now c.loop.from c.next_item.new.self (seq_begins None ∷ events_of_each g.T.ReadItem.events c.loop.items.items) (seq_ends ∷ []) (c.loop.invariant known)
      (reads_one g.F.Format.gives g.F.Format.stays c.loop.from c.next_item.new.self seq_ends (rw c.if-not-branch.true at c.in_ok-next_item.ensures));
}

pub loop-preserved : goal.loop-preserved
loop-preserved g c =
    let items : c.push.new.self.items ≡ c.loop.items.items ++ c.in_ok-item.item ∷ [] = search rules in
    λ known. reads_item g.F.Format.gives g.F.Format.stays g.T.ReadItem.events (seq_begins None) _ _ c.in_ok-item.item c.args.from.now c.loop.from c.read_item.new.from items (c.loop.invariant known)
    (reads_then g.F.Format.gives g.F.Format.stays c.loop.from c.next_item.new.self c.read_item.new.from [] _ (reads_look g.F.Format.gives g.F.Format.stays c.loop.from c.next_item.new.self (rw c.if-not-branch.false at c.in_ok-next_item.ensures)) (c.in_ok-item.ensures.whole known))
