use Rattle.volume_salvage.proofs.LawLemmas.{there-by, none-by, order-by}
use Rattle.volume_salvage.proofs.laws.salvaged_files.Goals as goal

pub returns-clause-there : goal.returns-clause-there
returns-clause-there c = there-by c.just_these_files.ensures.there c.sound_files.ensures

pub returns-clause-others : goal.returns-clause-others
returns-clause-others c = none-by c.just_these_files.ensures.others

pub returns-clause-order : goal.returns-clause-order
returns-clause-order c = order-by c.sound_files.ensures
