-- The pair with a new key goes last: what the vacant entry knows of the map holds of the map that was borrowed.
use Rattle.std.proofs.Common.{rules, ◌≡◌, length, None, subst, sym, refl}
use Rattle.std.specs.Map.{lookup}
use Rattle.indexmap.specs.Entry.{entry_map_ref, entry_index, entry_key, entry_value, map_with_value}
use Rattle.elsa_maps.proofs.Indices.{new_pair_goes_last}
use Rattle.elsa_maps.proofs.Pairs.{stands_inserted}
use Rattle.elsa_maps.proofs.index_map.FrozenIndexMapIn+R+K+V+S+A.insert_full_new.Goals as goal

pub returns-clause-accepted : goal.returns-clause-accepted
unfolding entry_index entry_key entry_value map_with_value
returns-clause-accepted g c =
    let gone : lookup (g.K.PartialEq.eq c.args.key) c.self.inside.table.entries ≡ None = sym (subst (λ e. entry_value e ≡ lookup (g.K.PartialEq.eq c.args.key) c.self.inside.table.entries) c.in-Vacant.is c.in-Ok.ensures.value) in
    let none : lookup (g.K.PartialEq.eq c.args.key) c.args.self.now ≡ None = search (rules, gone) in
    let same : c.in-Vacant.room.map.now.entries ≡ c.self.inside.table.entries = subst (λ e. (entry_map_ref e).now.entries ≡ c.self.inside.table.entries) c.in-Vacant.is c.in-Ok.ensures.unchanged in
    let keyed : c.in-Vacant.room.key ≡ c.args.key = subst (λ e. entry_value e ≡ None → entry_key e ≡ c.args.key) c.in-Vacant.is c.in-Ok.ensures.key refl in
    let at : c.index-index.result ≡ length c.args.self.now = search (rules, same) in
    let is : g.V.HasTarget.shown c.in-Ok-place.borrow ≡ g.V.HasTarget.target c.args.value = search rules in
    new_pair_goes_last g.K.PartialEq.eq g.V.HasTarget.target g.V.HasTarget.shown c.args.self.now c.args.key c.args.value c.index-index.result c.in-Ok-place.borrow _ none at is (search (rules, same, keyed))

pub returns-clause-value_after : goal.returns-clause-value_after
returns-clause-value_after g c = (stands_inserted g.K.PartialEq.eq g.met.K.Eq.laws g.V.HasTarget.target g.V.HasTarget.shown _ _ _ _ _ _ (returns-clause-accepted g c).0).1

pub returns-clause-index_after : goal.returns-clause-index_after
returns-clause-index_after g c = (stands_inserted g.K.PartialEq.eq g.met.K.Eq.laws g.V.HasTarget.target g.V.HasTarget.shown _ _ _ _ _ _ (returns-clause-accepted g c).0).0
