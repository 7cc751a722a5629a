use Rattle.example_memo.proofs.worker.+number.Given as goal

abbrev pub decreases-number : goal.decreases-number
decreases-number g l = l.index
