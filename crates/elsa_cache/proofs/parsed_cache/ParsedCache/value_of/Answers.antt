use Rattle.elsa_cache.proofs.parsed_cache.ParsedCache.value_of.Goals as goal

-- the values' table changes after the load, and the texts don't
pub returns-in_default-keep-clause-gains : goal.returns-in_default-keep-clause-gains
returns-in_default-keep-clause-gains g c t none there = c.load.ensures.gains t none (rw (← c.self-2.view_is) there)

pub returns-clause-gains : goal.returns-clause-gains
returns-clause-gains g c t none there = c.load.ensures.gains t none (rw (← c.self-2.view_is) there)
