use Rattle.std.proofs.Common.{rules}
use Rattle.elsa_maps.proofs.Copied.{cloned, gets_values}
use Rattle.elsa_maps.proofs.index_map.copied.Goals as goal

pub returns : goal.returns
returns g c = record {
  content = cloned g.K.PartialEq.eq g.K.Clone.is_clone c.requires.faithful _ _ (gets_values _ (λ f. f.0) (λ f k v b w f' t x xs is. search rules) g.K.Clone.is_clone g.B.Clone.is_clone _ c.args.table.now.entries c.in_ok-copy.copy.entries c.retain.new.self.entries c.values-values.ensures.rest c.in_ok-copy.ensures.cases c.retain.ensures.filtered);
}
