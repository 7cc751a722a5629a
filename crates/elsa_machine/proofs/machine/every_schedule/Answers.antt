use Rattle.elsa_machine.proofs.MachineLemmas.Promises.{all_end, answered, one_list, sound_moment}
use Rattle.elsa_machine.proofs.machine.every_schedule.Goals as goal

-- The facts about the list.
pub returns-clause-list : goal.returns-clause-list
returns-clause-list g c = λ plans schedule. one_list plans schedule

-- The facts about the results.
pub returns-clause-answers : goal.returns-clause-answers
returns-clause-answers g c = λ plans schedule. answered plans schedule

-- The facts about each moment.
pub returns-clause-moments : goal.returns-clause-moments
returns-clause-moments g c = λ plans schedule. sound_moment plans schedule

-- The facts about progress.
pub returns-clause-ends : goal.returns-clause-ends
returns-clause-ends g c = λ plans schedule k. all_end plans schedule k
