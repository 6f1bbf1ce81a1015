use Rattle.figures.proofs.columns.+thousands_length.Given as goal

abbrev pub decreases-thousands_length : goal.decreases-thousands_length
decreases-thousands_length l = l.commas
