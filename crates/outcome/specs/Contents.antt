-- What a file of the host is to hold, as notes and lines name it (this project's profile).
use Rattle.std.specs.Prelude.{ℕ, codes, List}
use Rattle.outcome.specs.declared.contents.Content.{Content}
use Rattle.outcome.specs.declared.contents.Content.TheVariants.{Image, Tape, Listing, Disk}
use Rattle.program_reports.specs.declared.drives.DriveRefusal.TheVariants.{Busy, Unwritten}
use Rattle.program_reports.specs.declared.programs.ProgramLine.{ProgramLine}
use Rattle.program_reports.specs.declared.programs.ProgramLine.TheVariants as line

-- the word for it
abbrev pub content_name : Content → List ℕ
content_name Image = codes "image"
content_name Tape = codes "tape"
content_name Listing = codes "listing"
content_name (Disk drive) = codes "image"

-- the line where another program holds it
abbrev pub line_of_busy : Content → ProgramLine
line_of_busy Image = line.HostBusy
line_of_busy Tape = line.HostBusy
line_of_busy Listing = line.HostBusy
line_of_busy (Disk drive) = line.OfDrive drive Busy

-- and where it could not be written
abbrev pub line_of_write : Content → ProgramLine
line_of_write Image = line.HostWrite
line_of_write Tape = line.HostWrite
line_of_write Listing = line.HostWrite
line_of_write (Disk drive) = line.OfDrive drive Unwritten
