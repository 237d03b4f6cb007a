use Rattle.vs_columns.proofs.decimal.+fit_nines.Given as goal

abbrev pub decreases-fit_nines : goal.decreases-fit_nines
decreases-fit_nines l = l.count
