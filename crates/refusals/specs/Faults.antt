-- The faults of a session and of a directory, and their texts.
use Rattle.std.specs.Prelude.{ℕ, codes, decimal, List, [], ◌∷◌, ◌++◌}
use Rattle.word12.specs.Octal.{octal4}
use Rattle.bin_tape.specs.declared.faults.TapeFault.{TapeFault}
use Rattle.bin_tape.specs.declared.faults.TapeFault.TheVariants.{BadFrame, NoOrigin, CheckSum, NoTrailer}
use Rattle.bin_tape.specs.declared.faults.TapeFault.TheVariants as tape
use Rattle.pal_faults.specs.declared.assembling.Code.{Code}
use Rattle.pal_faults.specs.declared.assembling.Code.TheVariants.{IC, SY, NU, UA, DT, RD, IR, FD, PF, NE, NW}
use Rattle.pal_faults.specs.declared.assembling.AsmFault.{AsmFault}
use Rattle.pal_faults.specs.declared.assembling.AsmFault.TheVariants.{At}
use Rattle.pal_faults.specs.declared.assembling.AsmFault.TheVariants as asm
use Rattle.os8_dir.specs.declared.faults.DirFault.{DirFault}
use Rattle.os8_dir.specs.declared.faults.DirFault.TheVariants as directory
use Rattle.os8_dir.specs.declared.file_faults.FileFault.{FileFault}
use Rattle.os8_dir.specs.declared.file_faults.FileFault.TheVariants.{NotFound, NoRoom, DirectoryFull, Busy, BadName, TooLong, TentativeOpen, Device, Stopped, NothingWritten}
use Rattle.os8_dir.specs.declared.file_faults.FileFault.TheVariants as file
use Rattle.refusals.specs.Shown.{name_text}
use Rattle.refusals.specs.declared.faults.SessionFault.{SessionFault}
use Rattle.refusals.specs.declared.faults.SessionFault.TheVariants.{BadLine, NoJob, TooManyJobs, File, Asm, Tape, BadText, Reader, Writer, Memory, TooManyBreaks}

-- want of memory is one fault, whatever met it
abbrev pub fault_of_asm : AsmFault → SessionFault
fault_of_asm (At code line) = Asm (At code line)
fault_of_asm asm.Memory = Memory

abbrev pub fault_of_tape : TapeFault → SessionFault
fault_of_tape (BadFrame at) = Tape (BadFrame at)
fault_of_tape NoOrigin = Tape NoOrigin
fault_of_tape (CheckSum found computed) = Tape (CheckSum found computed)
fault_of_tape NoTrailer = Tape NoTrailer
fault_of_tape tape.Memory = Memory

abbrev pub fault_of_file : FileFault → SessionFault
fault_of_file NotFound = File NotFound
fault_of_file (NoRoom blocks) = File (NoRoom blocks)
fault_of_file DirectoryFull = File DirectoryFull
fault_of_file (Busy name) = File (Busy name)
fault_of_file BadName = File BadName
fault_of_file TooLong = File TooLong
fault_of_file TentativeOpen = File TentativeOpen
fault_of_file Device = File Device
fault_of_file Stopped = File Stopped
fault_of_file file.Memory = Memory
fault_of_file NothingWritten = File NothingWritten

-- the two letters of an assembler's fault
abbrev pub code_text : Code → List ℕ
code_text IC = codes "IC"
code_text SY = codes "SY"
code_text NU = codes "NU"
code_text UA = codes "UA"
code_text DT = codes "DT"
code_text RD = codes "RD"
code_text IR = codes "IR"
code_text FD = codes "FD"
code_text PF = codes "PF"
code_text NE = codes "NE"
code_text NW = codes "NW"

-- the text of a fault of the assembler
abbrev pub asm_fault_text : AsmFault → List ℕ
asm_fault_text (At code line) = codes "? 5 " ++ code_text code ++ 0o40 ∷ decimal line
asm_fault_text asm.Memory = codes "? 10 MEMORY"

-- the text of a fault of a tape
abbrev pub tape_fault_text : TapeFault → List ℕ
tape_fault_text (BadFrame at) = codes "? 6.1 BAD FRAME " ++ decimal at
tape_fault_text NoOrigin = codes "? 6.2 NO ORIGIN"
tape_fault_text (CheckSum found computed) =
    codes "? 6.3 CHECK SUM " ++ octal4 found ++ codes " " ++ octal4 computed
tape_fault_text NoTrailer = codes "? 6.4 NO TRAILER"
tape_fault_text tape.Memory = codes "? 10 MEMORY"

-- the text of a refusal of the file service
abbrev pub file_fault_text : FileFault → List ℕ
file_fault_text NotFound = codes "? 4.1 NOT FOUND"
file_fault_text (NoRoom blocks) = codes "? 4.2 NO ROOM " ++ decimal blocks
file_fault_text DirectoryFull = codes "? 4.3 DIRECTORY FULL"
file_fault_text (Busy name) = codes "? 4.4 BUSY " ++ name_text name
file_fault_text BadName = codes "? 4.5 BAD NAME"
file_fault_text TooLong = codes "? 4.6 TOO LONG"
file_fault_text TentativeOpen = codes "? 4.7 TENTATIVE OPEN"
file_fault_text Device = codes "? 4.8 DEVICE"
file_fault_text Stopped = codes "? 4.9 STOPPED"
file_fault_text file.Memory = codes "? 10 MEMORY"
file_fault_text NothingWritten = codes "? 4.11 NOTHING WRITTEN"

-- the text of a fault of a directory
abbrev pub directory_fault_text : DirFault → List ℕ
directory_fault_text (directory.BadLink number) = codes "? DIRECTORY 1 BAD LINK " ++ decimal number
directory_fault_text (directory.BadCount number) = codes "? DIRECTORY 2 BAD COUNT " ++ decimal number
directory_fault_text directory.EntryPastSegment = codes "? DIRECTORY 3 ENTRY PAST SEGMENT"
directory_fault_text directory.PastVolume = codes "? DIRECTORY 4 PAST VOLUME"
directory_fault_text directory.SameName = codes "? DIRECTORY 5 SAME NAME"
directory_fault_text directory.WrongFirstBlock = codes "? DIRECTORY 6 WRONG FIRST BLOCK"
directory_fault_text directory.MixedInfo = codes "? DIRECTORY 7 MIXED INFO"
directory_fault_text directory.Device = codes "? DIRECTORY 8 DEVICE"
directory_fault_text directory.Memory = codes "? 10 MEMORY"

-- the text of a fault
abbrev pub fault_text : SessionFault → List ℕ
fault_text BadLine = codes "? 1 BAD LINE"
fault_text NoJob = codes "? 2 NO JOB"
fault_text TooManyJobs = codes "? 3 TOO MANY JOBS"
fault_text (File fault) = file_fault_text fault
fault_text (Asm fault) = asm_fault_text fault
fault_text (Tape fault) = tape_fault_text fault
fault_text BadText = codes "? 7 BAD TEXT"
fault_text Reader = codes "? 8 READER"
fault_text Writer = codes "? 9 WRITER"
fault_text Memory = codes "? 10 MEMORY"
fault_text TooManyBreaks = codes "? 11 TOO MANY BREAKS"

-- the line of a fault
abbrev pub fault_line : SessionFault → List ℕ
fault_line fault = fault_text fault ++ 0o12 ∷ []
