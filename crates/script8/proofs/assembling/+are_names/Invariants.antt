use Rattle.script8.proofs.assembling.+are_names.Given as goal

abbrev pub decreases-are_names : goal.decreases-are_names
decreases-are_names l = l.most
