use Rattle.elsa_history.proofs.laws.recorded_in_parts.Given as goal

-- The second part starts in the state in which the first one ended.
abbrev pub ghosts-recorded_part : goal.ghosts-recorded_part
ghosts-recorded_part g a = record { start = λ state opening. state a.core }
