use Rattle.std.specs.String.{string_bytes}
use Rattle.elsa_program.proofs.WrongWords.{two_words, four_words}
use Rattle.elsa_program.proofs.command.job.Goals as goal

-- Two words are not a job.
pub returns-in_default-3-clause-parsed : goal.returns-in_default-3-clause-parsed
returns-in_default-3-clause-parsed c = two_words string_bytes c.args.words.now c.in_default.len_at_least c.in_default.len_below

-- Four or more words are not a job.
pub returns-in_default-5-clause-parsed : goal.returns-in_default-5-clause-parsed
returns-in_default-5-clause-parsed c = four_words string_bytes c.args.words.now c.in_default.len_at_least
