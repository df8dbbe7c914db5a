-- The faults of lower layers among those of a job.
use Rattle.bin_tape.specs.declared.faults.TapeFault.{TapeFault}
use Rattle.bin_tape.specs.declared.faults.TapeFault.TheVariants as tape
use Rattle.bin_tape.specs.declared.faults.TapeFault.TheVariants.{BadFrame, NoOrigin, CheckSum, NoTrailer}
use Rattle.pal_faults.specs.declared.assembling.AsmFault.{AsmFault}
use Rattle.pal_faults.specs.declared.assembling.AsmFault.TheVariants as asm
use Rattle.pal_faults.specs.declared.assembling.AsmFault.TheVariants.{At}
use Rattle.os8_dir.specs.declared.file_faults.FileFault.{FileFault}
use Rattle.os8_dir.specs.declared.file_faults.FileFault.TheVariants as file
use Rattle.os8_dir.specs.declared.file_faults.FileFault.TheVariants.{NotFound, NoRoom, DirectoryFull, Busy, BadName, TooLong, TentativeOpen, Device, Stopped, NothingWritten}
use Rattle.volume_jobs.specs.declared.faults.JobFault.{JobFault}
use Rattle.volume_jobs.specs.declared.faults.JobFault.TheVariants.{File, Asm, Tape, Memory}

abbrev pub fault_of_tape : TapeFault → JobFault
fault_of_tape (BadFrame at) = Tape (BadFrame at)
fault_of_tape NoOrigin = Tape NoOrigin
fault_of_tape (CheckSum found computed) = Tape (CheckSum found computed)
fault_of_tape NoTrailer = Tape NoTrailer
fault_of_tape tape.Memory = Memory

abbrev pub fault_of_asm : AsmFault → JobFault
fault_of_asm (At code line) = Asm (At code line)
fault_of_asm asm.Memory = Memory

abbrev pub fault_of_file : FileFault → JobFault
fault_of_file NotFound = File NotFound
fault_of_file (NoRoom blocks) = File (NoRoom blocks)
fault_of_file DirectoryFull = File DirectoryFull
fault_of_file (Busy name) = File (Busy name)
fault_of_file BadName = File BadName
fault_of_file TooLong = File TooLong
fault_of_file TentativeOpen = File TentativeOpen
fault_of_file Device = File Device
fault_of_file Stopped = File Stopped
fault_of_file file.Memory = Memory
fault_of_file NothingWritten = File NothingWritten
