use Rattle.std.proofs.lemmas.List.{length-map}
use Rattle.elsa_locks.proofs.Walks.{copied_end, there}
use Rattle.elsa_locks.proofs.map.ordered_state.State+K+V+BTreeMap+K+Arc+V+A+A+A+R.last_key_value_cloned.Goals as goal

pub returns : goal.returns
returns g c = rw (← c.self.view_is) record {
  answer = rw length-map (copied_end g.K.Clone.is_clone c.self.inside.table.entries _ c.last_key_value.result _ c.last_key_value.ensures.variant c.last_key_value.ensures.last c.copied_entry.ensures.answer);
  only_present = there c.self.inside.table.entries c.last_key_value.result _ c.last_key_value.ensures.variant c.copied_entry.ensures.only_present;
}
