use Rattle.example_modules.proofs.loader.load.Goals as goal

-- the stored key reads as the path
pub returns-clause-found : goal.returns-clause-found
returns-clause-found g c = rw (← c.in_ok-key.ensures.ok) c.get_or_try_init.ensures.found
