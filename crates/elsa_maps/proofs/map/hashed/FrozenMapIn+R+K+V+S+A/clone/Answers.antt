use Rattle.std.proofs.Common.{◌≡◌, [], ◌∷◌, None, length, map, refl, sym, ap, ◌∙◌}
use Rattle.std.specs.Map.{update_all}
use Rattle.std.specs.Map.Iter.{deref_pair}
use Rattle.std.proofs.lemmas.List.{map-append}
use Rattle.std.proofs.lemmas.Map.Iter.{iter_end}
use Rattle.std.proofs.lemmas.Map.Lookups.{hash_map_len_from_get}
use Rattle.std.proofs.lemmas.Map.Made.{update_all_none}
use Rattle.elsa_maps.specs.FirstWins.{value_at}
use Rattle.elsa_maps.proofs.Contents.{copies_more}
use Rattle.elsa_maps.proofs.map.hashed.FrozenMapIn+R+K+V+S+A.clone.Goals as goal

pub returns-in-Ok-clause-count : goal.returns-in-Ok-clause-count
returns-in-Ok-clause-count g c = rw (← c.self.view_is) (ap length c.from_map.ensures ∙ c.in-Ok.ensures.count)

pub loop-key-preserved : goal.loop-key-preserved
loop-key-preserved g c =
    let eq = g.K.PartialEq.eq in
    let more = copies_more eq g.met.K.Eq.laws (map deref_pair c.loop-key.yielded) c.loop-key.copy.entries c.insert.new.self.entries c.in-Some.key.now c.in_ok-key.key c.in-Some.value.now c.loop-key.invariant.content (c.requires.equal_clones c.in-Some.key.now c.in_ok-key.key c.in_ok-key.ensures.cases) c.in-Ok-insert.ensures.updates.0 in
    record {
      content = λ q. more q ∙ ap (λ xs. update_all eq (λ _. None) xs q) (sym (map-append deref_pair c.loop-key.yielded ((c.in-Some.key, c.in-Some.value) ∷ [])));
      distinct = c.insert.ensures.unique;
    }

copied : (g : _) (c : goal.After-from_map-2 g) (q : g.row.K.Denot) → value_at g.K.PartialEq.eq c.loop-key.copy.entries q ≡ value_at g.K.PartialEq.eq c.self.inside.table.entries q
copied g c q =
    let eq = g.K.PartialEq.eq in
    let gives = c.into_iter-key-iterator.ensures.into_iter_gives in
    let whole = iter_end deref_pair c.self.inside.table.entries c.loop-key.yielded c.into_iter-key-iterator.result c.loop-key.key-iterator c.next.new.self c.next.result gives.0 c.loop-key.yielded_by c.in-None.is c.next.ensures.steps in
    c.loop-key.invariant.content q ∙ ap (λ xs. update_all eq (λ _. None) xs q) whole.0 ∙ update_all_none g.met.K.Eq.laws eq (λ x y. refl) c.self.inside.table.entries q gives.4

pub returns-clause-content : goal.returns-clause-content
returns-clause-content g c q = rw (← c.self.view_is) (ap (λ es. value_at g.K.PartialEq.eq es q) c.from_map-2.ensures ∙ copied g c q)

pub returns-clause-count : goal.returns-clause-count
returns-clause-count g c =
    let gives = c.into_iter-key-iterator.ensures.into_iter_gives in
    rw (← c.self.view_is) (ap length c.from_map-2.ensures ∙ hash_map_len_from_get g.met.K.Eq.laws c.loop-key.copy c.self.inside.table c.loop-key.invariant.distinct gives.4 (copied g c))
