use Rattle.answers.proofs.number.+place_decimal.Given as goal

abbrev pub decreases-place_decimal : goal.decreases-place_decimal
decreases-place_decimal l = l.n
