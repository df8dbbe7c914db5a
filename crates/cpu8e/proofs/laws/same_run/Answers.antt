use Rattle.cpu8e.proofs.SameRunLemmas.{same-after, same-answer}
use Rattle.cpu8e.proofs.laws.same_run.Goals as goal

pub returns : goal.returns
returns c = record { state = same-after; answers = same-answer }
