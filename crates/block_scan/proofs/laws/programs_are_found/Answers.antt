use Rattle.std.proofs.Common.{◌/◌, length, arith}
use Rattle.word12.specs.declared.sizes.TheConstants.{BLOCK}
use Rattle.block_scan.proofs.ProgramLemmas.{is-found}
use Rattle.block_scan.proofs.laws.programs_are_found.Goals as goal

pub returns : goal.returns
returns c = λ words programs kind place size are inside some not heads.
    is-found words (length words / BLOCK) 0 programs kind place size are (omega arith) inside some not heads
