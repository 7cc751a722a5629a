use Rattle.example_account.proofs.two_days.Given as goal

-- The second day starts with the account that the first one left.
abbrev pub ghosts-day : goal.ghosts-day
ghosts-day g a = record { start = λ state opening. state a.account }
