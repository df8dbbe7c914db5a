-- What is printed of frames that are no BIN tape (this project's profile).
use Rattle.std.specs.Prelude.{◌≡◌, ◌⊎◌, ℕ, Bool, true, false, List}
use Rattle.hosts.specs.Event.{Event}
use Rattle.file_kind.specs.Kinds.{IsKind}
use Rattle.file_kind.specs.declared.kinds.FileKind.{FileKind}
use Rattle.refusals.specs.declared.faults.SessionFault.{SessionFault}
use Rattle.refusals.specs.declared.faults.SessionFault.TheVariants.{BadLine, NoJob, TooManyJobs, File, Asm, Tape, BadText, Reader, Writer, Memory, TooManyBreaks}
use Rattle.outcome.specs.Hints.{kind_note}
use Rattle.outcome.specs.declared.endings.Ending.{Ending}
use Rattle.outcome.specs.declared.endings.Ending.TheVariants as ending
use Rattle.image_files.specs.Work.{Lacks}
use Rattle.image_files.specs.Notes.{Tells}

-- a fault of frames that are no BIN tape
abbrev pub is_tape_fault : SessionFault → Bool
is_tape_fault (Tape fault) = true
is_tape_fault BadLine = false
is_tape_fault NoJob = false
is_tape_fault TooManyJobs = false
is_tape_fault (File fault) = false
is_tape_fault (Asm fault) = false
is_tape_fault BadText = false
is_tape_fault Reader = false
is_tape_fault Writer = false
is_tape_fault Memory = false
is_tape_fault TooManyBreaks = false

-- a command ends since frames are no BIN tape
abbrev pub is_no_tape : Ending → Bool
is_no_tape (ending.Fault fault) = is_tape_fault fault
is_no_tape (ending.Line line) = false
is_no_tape ending.Failure = false
is_no_tape (ending.Busy content) = false
is_no_tape (ending.NotWritten content left) = false
is_no_tape ending.FullOutput = false
is_no_tape ending.Unreported = false
is_no_tape ending.NoReader = false
is_no_tape ending.Misuse = false

-- Frames are no BIN tape, so a command ends with the fault of that. First standard error gets what they are, if a command takes that; where
-- memory is wanted to know it, the command ends with that.
abbrev pub RefusesTape : List ℕ → Ending → List Event → Ending → List Event → Type 0
RefusesTape frames fault old ended new = ((kind : FileKind) × IsKind frames kind × (ended ≡ fault) × Tells (kind_note kind) old new)
    ⊎ Lacks old ended new

abbrev pub RefusesIf : Bool → List ℕ → Ending → List Event → Ending → List Event → Type 0
RefusesIf true frames fault old ended new = RefusesTape frames fault old ended new
RefusesIf false frames fault old ended new = (ended ≡ fault) × (new ≡ old)

-- how a command ends whose frames are refused so
abbrev pub RefusesFrames : List ℕ → Ending → List Event → Ending → List Event → Type 0
RefusesFrames frames fault old ended new = RefusesIf (is_no_tape fault) frames fault old ended new
