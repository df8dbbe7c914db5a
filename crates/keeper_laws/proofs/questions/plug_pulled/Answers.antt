use Rattle.keeper_laws.proofs.QuestionLemmas.{put-plugged}
use Rattle.keeper_laws.proofs.questions.plug_pulled.Goals as goal

pub returns : goal.returns
returns c = put-plugged
