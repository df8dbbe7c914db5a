use Rattle.volume_salvage.proofs.RescueLawLemmas.{kept-are-there, others-are-not}
use Rattle.volume_salvage.proofs.rescue_laws.just_these_files.Goals as goal

pub returns-clause-there : goal.returns-clause-there
returns-clause-there c = kept-are-there

pub returns-clause-others : goal.returns-clause-others
returns-clause-others c = others-are-not
