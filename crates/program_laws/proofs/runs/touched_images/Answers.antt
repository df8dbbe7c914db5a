use Rattle.program_laws.proofs.RunTouchLemmas.{run-touched}
use Rattle.program_laws.proofs.runs.touched_images.Goals as goal

pub returns : goal.returns
returns g c named form is_typed before after old result new saved runs = run-touched named form is_typed _ saved old result new runs
