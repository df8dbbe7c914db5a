use Rattle.block_scan.proofs.ProgramLemmas.{goes-on}
use Rattle.block_scan.proofs.laws.longer_programs.Goals as goal

pub returns : goal.returns
returns c = goes-on c.longer_tape.ensures
