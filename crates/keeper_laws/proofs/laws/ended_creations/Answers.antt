use Rattle.change_commands.specs.Creating.{IsBlankDisk, IsBlankImage, IsBlankTapeFile}
use Rattle.change_commands.specs.declared.creating.TheConstants.{TAPE_BLOCKS, DISK_BLOCKS}
use Rattle.keeper_laws.proofs.MakeLemmas.{blank-line, create-ends, disk-line, tape-line}
use Rattle.keeper_laws.proofs.laws.ended_creations.Goals as goal

pub returns-clause-volumes : goal.returns-clause-volumes
returns-clause-volumes c form blocks = create-ends (IsBlankImage blocks) (blank-line blocks) form blocks

pub returns-clause-tapes : goal.returns-clause-tapes
returns-clause-tapes c form = create-ends IsBlankTapeFile tape-line form TAPE_BLOCKS

pub returns-clause-disks : goal.returns-clause-disks
returns-clause-disks c form = create-ends IsBlankDisk disk-line form DISK_BLOCKS
