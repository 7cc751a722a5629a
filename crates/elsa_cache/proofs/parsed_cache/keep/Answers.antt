use Rattle.elsa_cache.proofs.parsed_cache.keep.Goals as goal

-- the stored path reads as the path does
pub returns-in-Some-clause-present : goal.returns-in-Some-clause-present
returns-in-Some-clause-present g c = rw (← c.requires.reads_same _ c.in-Some.is) c.insert.ensures.present

pub returns-in-Some-clause-value_after : goal.returns-in-Some-clause-value_after
returns-in-Some-clause-value_after g c = rw (← c.requires.reads_same _ c.in-Some.is) c.insert.ensures.value_after

pub returns-in-Some-clause-refused : goal.returns-in-Some-clause-refused
returns-in-Some-clause-refused g c = rw (← c.requires.reads_same _ c.in-Some.is) c.insert.ensures.refused
