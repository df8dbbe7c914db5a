use Rattle.change_commands.specs.Creating.{IsBlankDisk, IsBlankImage, IsBlankTapeFile}
use Rattle.change_commands.specs.declared.creating.TheConstants.{TAPE_BLOCKS, DISK_BLOCKS}
use Rattle.keeper_laws.specs.Made.{HasCreated}
use Rattle.keeper_laws.proofs.TouchLemmas.{file-touches, made-touches, rescue-touches}
use Rattle.keeper_laws.proofs.laws.touched_places.Goals as goal

pub returns-clause-volumes : goal.returns-clause-volumes
returns-clause-volumes c form blocks old result new p =
    made-touches (HasCreated (IsBlankImage blocks) form blocks) (λ ok old new s. file-touches form.is_new form.file.bytes.items s.file.items old new s.has) result old new (c.ended_creations.ensures.volumes form blocks old result new p)

pub returns-clause-tapes : goal.returns-clause-tapes
returns-clause-tapes c form old result new p =
    made-touches (HasCreated IsBlankTapeFile form TAPE_BLOCKS) (λ ok old new s. file-touches form.is_new form.file.bytes.items s.file.items old new s.has) result old new (c.ended_creations.ensures.tapes form old result new p)

pub returns-clause-disks : goal.returns-clause-disks
returns-clause-disks c form old result new p =
    made-touches (HasCreated IsBlankDisk form DISK_BLOCKS) (λ ok old new s. file-touches form.is_new form.file.bytes.items s.file.items old new s.has) result old new (c.ended_creations.ensures.disks form old result new p)

pub returns-clause-rescues : goal.returns-clause-rescues
returns-clause-rescues c name form old result new p = rescue-touches name form result old new (c.ended_rescues.ensures name form old result new p)
