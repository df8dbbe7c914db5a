use Rattle.keeper_laws.proofs.LaidLemmas.{gotten}
use Rattle.keeper_laws.proofs.folders.laid_files.Goals as goal

pub returns : goal.returns
returns c form old new p = gotten form old tt new p
