use Rattle.block_scan.proofs.FoundLemmas.{text-is-found}
use Rattle.block_scan.proofs.laws.texts_are_found.Goals as goal

pub returns : goal.returns
returns c = text-is-found
