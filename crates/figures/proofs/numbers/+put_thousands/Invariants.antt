use Rattle.figures.proofs.numbers.+put_thousands.Given as goal

abbrev pub decreases-put_thousands : goal.decreases-put_thousands
decreases-put_thousands g l = l.commas
