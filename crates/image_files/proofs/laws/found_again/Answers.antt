use Rattle.image_files.proofs.AgainLemmas.{looks-at-first, saved-again, unsaved-again}
use Rattle.image_files.proofs.laws.found_again.Goals as goal

pub returns-clause-saved : goal.returns-clause-saved
returns-clause-saved c = saved-again c.laid_volume.ensures.again

pub returns-clause-unsaved : goal.returns-clause-unsaved
returns-clause-unsaved c = unsaved-again

pub returns-clause-looks : goal.returns-clause-looks
returns-clause-looks c = looks-at-first
