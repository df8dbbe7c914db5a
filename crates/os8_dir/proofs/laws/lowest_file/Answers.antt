use Rattle.os8_dir.proofs.ChosenLemmas.{lowest-first, count-above}
use Rattle.os8_dir.proofs.CountLemmas.{lowest-none, lowest-gap, lowest-moved}
use Rattle.os8_dir.proofs.laws.lowest_file.Goals as goal

pub returns : goal.returns
returns c = record { none = lowest-none; gap = lowest-gap; fewer = lowest-moved; first = lowest-first; count = count-above }
