use Rattle.figures.proofs.columns.+put_spaces.Given as goal

abbrev pub decreases-put_spaces : goal.decreases-put_spaces
decreases-put_spaces g l = l.count
