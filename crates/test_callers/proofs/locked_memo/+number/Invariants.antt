use Rattle.test_callers.proofs.locked_memo.+number.Given as goal

abbrev pub decreases-number : goal.decreases-number
decreases-number g l = l.index
