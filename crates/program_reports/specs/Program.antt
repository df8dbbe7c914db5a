-- The lines that the program prints beside those of a session (this project's profile).
use Rattle.std.specs.Prelude.{ℕ, ◌/◌, nat_eq, if◌then◌else◌, codes, decimal, List, [], ◌∷◌, ◌++◌}
use Rattle.word12.specs.Octal.{octal_digit, octal4, octal5}
use Rattle.core_image.specs.declared.faults.CoreFault.{CoreFault}
use Rattle.core_image.specs.declared.faults.CoreFault.TheVariants as core
use Rattle.disk_layouts.specs.declared.faults.DiskFault.{DiskFault}
use Rattle.disk_layouts.specs.declared.faults.DiskFault.TheVariants as disk
use Rattle.pal_faults.specs.declared.names.LineRefusal.{LineRefusal as Unnamed}
use Rattle.pal_faults.specs.declared.names.LineRefusal.TheVariants as unnamed
use Rattle.rim_tape.specs.declared.faults.RimFault.{RimFault}
use Rattle.rim_tape.specs.declared.faults.RimFault.TheVariants as rim
use Rattle.volume_image.specs.declared.faults.ImageFault.{ImageFault}
use Rattle.volume_image.specs.declared.faults.ImageFault.TheVariants as image
use Rattle.refusals.specs.Faults.{directory_fault_text}
use Rattle.name_spelling.specs.Spelling.{text_of}
use Rattle.program_reports.specs.declared.drives.DriveRefusal.{DriveRefusal}
use Rattle.program_reports.specs.declared.drives.DriveRefusal.TheVariants as refused
use Rattle.program_reports.specs.declared.programs.ProgramLine.{ProgramLine}
use Rattle.program_reports.specs.declared.programs.ProgramLine.TheVariants as line

abbrev pub image_text : ImageFault → List ℕ
image_text image.NotWhole = codes "? IMAGE 1 NOT WHOLE"
image_text image.TooSmall = codes "? IMAGE 2 TOO SMALL"
image_text image.TooLarge = codes "? IMAGE 3 TOO LARGE"
image_text (image.BadWord index) = codes "? IMAGE 4 BAD WORD " ++ decimal index
image_text image.Memory = codes "? 10 MEMORY"

-- the three octal digits of a frame
abbrev pub frame_text : ℕ → List ℕ
frame_text frame = octal_digit (frame / 0o100) ∷ octal_digit (frame / 8) ∷ octal_digit frame ∷ []

abbrev pub rim_text : RimFault → List ℕ
rim_text (rim.BadFrame place frame) = codes "? RIM 1 BAD FRAME " ++ decimal place ++ codes " " ++ frame_text frame
rim_text rim.NoTrailer = codes "? RIM 2 NO TRAILER"
rim_text rim.Memory = codes "? 10 MEMORY"

abbrev pub core_text : CoreFault → List ℕ
core_text (core.BadWord place word) = codes "? CORE 1 BAD WORD " ++ decimal place ++ codes " " ++ octal4 word
core_text core.TooShort = codes "? CORE 2 TOO SHORT"
core_text core.Memory = codes "? 10 MEMORY"

-- the number and the words for why a line of names is refused
abbrev pub refusal_text : Unnamed → List ℕ
refusal_text unnamed.BadLine = codes "1 BAD LINE"
refusal_text unnamed.NoName = codes "2 NO NAME"
refusal_text unnamed.Permanent = codes "3 PERMANENT NAME"
refusal_text unnamed.Tag = codes "4 FORM OF A TAG"
refusal_text unnamed.Twice = codes "5 GIVEN TWICE"
refusal_text unnamed.NoCell = codes "6 NO WORD"

-- why a line of names is refused, and which it is, counted from 1
abbrev pub names_text : ℕ → Unnamed → List ℕ
names_text line why = codes "? NAMES " ++ refusal_text why ++ codes " " ++ decimal line

-- of so many images so many were refused
abbrev pub images_text : ℕ → ℕ → List ℕ
images_text count refused = codes "IMAGES " ++ decimal count ++ codes " REFUSED " ++ decimal refused

-- why a file holds no volume of a disk or of a DECtape
abbrev pub disk_text : DiskFault → List ℕ
disk_text disk.TooLong = codes "? DISK 1 TOO LONG"
disk_text disk.NoTape = codes "? DISK 2 NO DECTAPE"
disk_text disk.Memory = codes "? 10 MEMORY"

-- why the file of a drive's disk is refused
abbrev pub refusal_of_drive : DriveRefusal → List ℕ
refusal_of_drive refused.Unread = codes "? HOST READ"
refusal_of_drive refused.Unwritten = codes "? HOST WRITE"
refusal_of_drive refused.Busy = codes "? HOST BUSY"
refusal_of_drive (refused.Image fault) = image_text fault

-- the drive, if it isn't 0
abbrev pub drive_text : ℕ → List ℕ
drive_text drive = if nat_eq drive 0 then [] else codes " RK" ++ octal_digit drive ∷ []

abbrev pub program_text : ProgramLine → List ℕ
program_text (line.Created blocks) = codes "CREATED " ++ decimal blocks
program_text line.HostRead = codes "? HOST READ"
program_text line.HostWrite = codes "? HOST WRITE"
program_text line.HostBusy = codes "? HOST BUSY"
program_text line.NoWord = codes "? SOURCE 1 NO WORD"
program_text (line.NoStart cell) = codes "? SOURCE 2 NO WORD AT " ++ octal5 cell
program_text (line.Reserved cell) = codes "? SOURCE 3 RESERVED NAME AT " ++ octal5 cell
program_text (line.Names number why) = names_text number why
program_text (line.Renamed old new) = codes "RENAMED " ++ text_of old ++ codes " " ++ text_of new
program_text line.Exists = codes "? RENAME 1 FILE EXISTS"
program_text line.CopyExists = codes "? COPY 1 FILE EXISTS"
program_text (line.Squeezed moved) = codes "SQUEEZED " ++ decimal moved
program_text (line.Stored name blocks) = codes "STORED " ++ text_of name ++ codes " " ++ decimal blocks
program_text (line.Deleted name) = codes "DELETED " ++ text_of name
program_text (line.Got name blocks) = codes "GOT " ++ text_of name ++ codes " " ++ decimal blocks
program_text line.HostExists = codes "? HOST EXISTS"
program_text line.OneFile = codes "? HOST ONE FILE"
program_text line.SameName = codes "? PUT 1 SAME NAME"
program_text (line.OnlyWords words) = codes "? PUT 2 ONLY " ++ decimal words ++ codes " WORDS"
program_text (line.OnlyBlocks blocks) = codes "? BLOCKS 1 ONLY " ++ decimal blocks
program_text (line.Images count refused) = images_text count refused
program_text (line.Disk fault) = disk_text fault
program_text line.TwoReadings = codes "? KIND 1 TWO READINGS"
program_text line.OtherKind = codes "? KIND 2 OTHER KIND"
program_text line.NothingToRun = codes "? TELETYPE 1 NO WORD"
program_text (line.Start cell) = codes "START " ++ octal5 cell
program_text (line.Core fault) = core_text fault
program_text (line.Rim fault) = rim_text fault
program_text (line.Image fault) = image_text fault
program_text (line.OfDrive drive why) = refusal_of_drive why ++ drive_text drive
program_text (line.Directory fault) = directory_fault_text fault

-- a line of the program
abbrev pub program_line : ProgramLine → List ℕ
program_line line = program_text line ++ 0o12 ∷ []
