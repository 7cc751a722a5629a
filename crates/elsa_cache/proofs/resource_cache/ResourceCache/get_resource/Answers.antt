use Rattle.elsa_cache.proofs.resource_cache.ResourceCache.get_resource.Goals as goal

pub returns-clause-gains : goal.returns-clause-gains
returns-clause-gains g c t none there = c.get_or_parse_placed-made.ensures.gains t (rw (c.self.view_is) none) there
