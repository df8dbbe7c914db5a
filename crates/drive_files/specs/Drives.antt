-- The drive that a command's end names where the file of its disk is refused (this project's profile).
use Rattle.std.specs.Prelude.{◌≡◌, ℕ, Result, Ok, Err, List}
use Rattle.hosts.specs.Event.{Event}
use Rattle.program_reports.specs.declared.drives.DriveRefusal.TheVariants as refused
use Rattle.program_reports.specs.declared.programs.ProgramLine.{ProgramLine}
use Rattle.program_reports.specs.declared.programs.ProgramLine.TheVariants as line
use Rattle.outcome.specs.declared.contents.Content.TheVariants.{Disk}
use Rattle.outcome.specs.declared.endings.Ending.{Ending}
use Rattle.outcome.specs.declared.endings.Ending.TheVariants.{Line, Fault, Failure, Busy, NotWritten, FullOutput, Unreported, NoReader, Misuse}

-- the line of a file that can't be read, or holds no disk, names the drive
abbrev pub line_of_drive : ℕ → ProgramLine → ProgramLine
line_of_drive drive line.HostRead = line.OfDrive drive refused.Unread
line_of_drive drive (line.Image fault) = line.OfDrive drive (refused.Image fault)
line_of_drive drive other = other

-- and so does that of one that another program holds, or that can't be written
abbrev pub of_drive : ℕ → Ending → Ending
of_drive drive (Line line) = Line (line_of_drive drive line)
of_drive drive (Busy content) = Busy (Disk drive)
of_drive drive (NotWritten content left) = NotWritten (Disk drive) left
of_drive drive (Fault fault) = Fault fault
of_drive drive Failure = Failure
of_drive drive FullOutput = FullOutput
of_drive drive Unreported = Unreported
of_drive drive NoReader = NoReader
of_drive drive Misuse = Misuse

-- a step with the file of a drive's disk; where it ends the command, that end names the drive
abbrev pub OfDrive : {A : Type 0} → ℕ → (List Event → Result A Ending → List Event → Type 0) → List Event → Result A Ending → List Event → Type 0
OfDrive drive step old (Ok it) new = step old (Ok it) new
OfDrive drive step old (Err ended) new = (ending : Ending) × step old (Err ending) new × (ended ≡ of_drive drive ending)
