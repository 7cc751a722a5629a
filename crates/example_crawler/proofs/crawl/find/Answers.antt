use Rattle.example_crawler.proofs.crawl.find.Goals as goal

-- the stored key reads as the address
pub returns-clause-has : goal.returns-clause-has
returns-clause-has g c = rw (← c.in_ok-key.ensures.ok) (_, c.in_ok-inserted.ensures.inserted.0)
