use Rattle.std.proofs.Common.{◌≡◌, ◌<◌, Some, length, slice_get, sym, subst, ap, ◌∙◌}
use Rattle.std.specs.List.{IsDistinct}
use Rattle.std.specs.Map.{keys_of}
use Rattle.std.specs.Map.Iter.{deref_pair}
use Rattle.std.specs.Option.{option_map}
use Rattle.elsa_maps.proofs.Clones.{clone_more}
use Rattle.elsa_maps.proofs.index_map.FrozenIndexMapIn+R+K+V+S+A.clone.Goals as goal

pub loop-i-preserved : goal.loop-i-preserved
loop-i-preserved g c =
    let eq = g.K.PartialEq.eq in
    let pair = c.unwrap.result in
    let cloned = c.in_ok-clone.ensures.cases in
    let distinct : IsDistinct eq (keys_of c.args.self.now) = subst (λ es. IsDistinct eq (keys_of es)) c.self.view_is c.len-len.ensures.unique in
    let at : slice_get c.args.self.now c.loop-i.i ≡ Some (pair.0.now, pair.1.now) = ap (λ es. slice_get es c.loop-i.i) (sym c.self.view_is) ∙ sym c.get_index.ensures.entry ∙ ap (option_map deref_pair) c.unwrap.ensures in
    let within : c.loop-i.i < length c.args.self.now = subst (λ n. c.loop-i.i < n) (c.len-len.ensures.len ∙ ap length c.self.view_is) c.loop-i-test.true in
    clone_more eq g.met.K.Eq.laws g.K.Clone.is_clone c.args.self.now c.loop-i.map.entries c.insert.new.self.entries c.loop-i.i pair.0.now c.in_ok-clone.field-0 pair.1.now within at distinct c.loop-i.invariant cloned (c.requires.faithful _ _ cloned) c.in_ok-insert.ensures.entries
