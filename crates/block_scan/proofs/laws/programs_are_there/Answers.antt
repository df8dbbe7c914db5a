use Rattle.std.proofs.Common.{◌/◌, length}
use Rattle.word12.specs.declared.sizes.TheConstants.{BLOCK}
use Rattle.block_scan.proofs.ProgramLemmas.{are-there}
use Rattle.block_scan.proofs.laws.programs_are_there.Goals as goal

pub returns : goal.returns
returns c = λ words programs are. are-there words (length words / BLOCK) 0 programs are
