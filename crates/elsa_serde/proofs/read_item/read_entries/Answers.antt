use Rattle.std.proofs.Common.{◌≡◌, ◌++◌, ◌∷◌, [], None, rules}
use Rattle.serde.specs.Event.{key_begins, map_begins, map_ends}
use Rattle.elsa_serde.specs.Read.{entry_events, events_of_each}
use Rattle.elsa_serde.proofs.Reading.{reads_begin, reads_item, reads_one, reads_then}
use Rattle.elsa_serde.proofs.read_item.read_entries.Goals as goal

pub loop-init : goal.loop-init
loop-init g c = λ _ _. reads_begin g.F.Format.gives g.F.Format.stays (entry_events g.K.ReadItem.events g.V.ReadItem.events) (map_begins None) _ c.args.from.now c.begin_map.new.self c.new-entries.ensures.items c.in_ok-begin_map.ensures

pub returns-then-not-branch : goal.returns-then-not-branch
returns-then-not-branch g c = record {
  whole = λ key value. reads_then g.F.Format.gives g.F.Format.stays c.args.from.now c.loop.from c.next_entry.new.self (map_begins None ∷ events_of_each (entry_events g.K.ReadItem.events g.V.ReadItem.events) c.loop.entries.items) (map_ends ∷ []) (c.loop.invariant key value)
      (reads_one g.F.Format.gives g.F.Format.stays c.loop.from c.next_entry.new.self map_ends (rw c.if-not-branch.true at c.in_ok-next_entry.ensures));
}

pub loop-preserved : goal.loop-preserved
loop-preserved g c =
    let entries : c.push.new.self.items ≡ c.loop.entries.items ++ (c.in_ok-key.key, c.in_ok-value.value) ∷ [] = search rules in
    λ key value. reads_item g.F.Format.gives g.F.Format.stays (entry_events g.K.ReadItem.events g.V.ReadItem.events) (map_begins None) _ _ (c.in_ok-key.key, c.in_ok-value.value) c.args.from.now c.loop.from c.read_item-in-loop.new.from entries (c.loop.invariant key value)
    (reads_then g.F.Format.gives g.F.Format.stays c.loop.from c.next_entry.new.self c.read_item-in-loop.new.from (key_begins ∷ []) _ (reads_one g.F.Format.gives g.F.Format.stays c.loop.from c.next_entry.new.self key_begins (rw c.if-not-branch.false at c.in_ok-next_entry.ensures))
    (reads_then g.F.Format.gives g.F.Format.stays c.next_entry.new.self c.read_item.new.from c.read_item-in-loop.new.from (g.K.ReadItem.events c.in_ok-key.key) (g.V.ReadItem.events c.in_ok-value.value) (c.in_ok-key.ensures.whole key) (c.in_ok-value.ensures.whole value)))
