use Rattle.std.proofs.Common.{rules, sym, ◌∙◌}
use Rattle.std.specs.Cmp.{eq_by_cmp_equiv}
use Rattle.std.specs.List.{AllZip}
use Rattle.std.specs.Ordering.{eq_by_cmp}
use Rattle.std.proofs.lemmas.Slice.Zip.{AllZip-long}
use Rattle.elsa_maps.proofs.Copied.{HasValueOf, gets_values, same_at_clone}
use Rattle.elsa_maps.proofs.map.ordered.copied.Goals as goal

-- each entry has its source's value, under a clone of its key
each : (g : _) (c : goal.After-retain g) → AllZip (HasValueOf g.K.Clone.is_clone) c.args.tree.now.entries c.retain.new.self.entries
each g c =
    gets_values _ (λ f. f.0) (λ f k v b w f' t x xs is. search rules) g.K.Clone.is_clone g.B.Clone.is_clone _ c.args.tree.now.entries c.in_ok-copy.copy.entries c.retain.new.self.entries c.values-values.ensures.rest c.in_ok-copy.ensures.cases c.retain.ensures.filtered

pub returns-clause-content : goal.returns-clause-content
returns-clause-content g c =
    same_at_clone (eq_by_cmp g.K.Ord.cmp) (eq_by_cmp_equiv g.met.K.Ord.total) g.K.Clone.is_clone (λ k d is. sym (g.met.K.Ord.matches_eq k d) ∙ c.requires.equal_clones k d is) _ _ (each g c)

pub returns-clause-count : goal.returns-clause-count
returns-clause-count g c = AllZip-long (HasValueOf g.K.Clone.is_clone) _ _ (each g c)
