use Rattle.os8_dir.proofs.names.+number_of_codes.Given as goal

abbrev pub decreases-number_of_codes : goal.decreases-number_of_codes
decreases-number_of_codes l = l.size
