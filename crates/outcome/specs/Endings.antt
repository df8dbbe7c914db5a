-- How a command ends by the faults of what it calls, as `?` makes them.
use Rattle.std.specs.declared.io.ErrorKind.{ErrorKind}
use Rattle.std.specs.declared.io.ErrorKind.TheVariants.{OutOfMemory}
use Rattle.bin_tape.specs.declared.faults.TapeFault.{TapeFault}
use Rattle.refusals.specs.Faults.{fault_of_tape}
use Rattle.refusals.specs.declared.faults.SessionFault.TheVariants.{Memory, Reader}
use Rattle.archive_files.specs.declared.faults.ArchiveFault.{ArchiveFault}
use Rattle.archive_files.specs.declared.faults.ArchiveFault.TheVariants as archive
use Rattle.program_reports.specs.declared.programs.ProgramLine.TheVariants as line
use Rattle.program_reports.specs.declared.faults.SourceFault.{SourceFault}
use Rattle.program_reports.specs.declared.faults.SourceFault.TheVariants as source
use Rattle.outcome.specs.declared.endings.Ending.{Ending}
use Rattle.outcome.specs.declared.endings.Ending.TheVariants.{Line, Fault}

abbrev pub ending_of_tape : TapeFault → Ending
ending_of_tape fault = Fault (fault_of_tape fault)

abbrev pub ending_of_archive : ArchiveFault → Ending
ending_of_archive (archive.Image fault) = Line (line.Image fault)
ending_of_archive (archive.Directory fault) = Line (line.Directory fault)
ending_of_archive (archive.Refused fault) = Fault fault

abbrev pub ending_of_source : SourceFault → Ending
ending_of_source source.NoWord = Line line.NoWord
ending_of_source (source.NoStart start) = Line (line.NoStart start)
ending_of_source (source.Reserved cell) = Line (line.Reserved cell)
ending_of_source (source.Names number why) = Line (line.Names number why)
ending_of_source (source.Session fault) = Fault fault

-- a call for what is read failed
abbrev pub ending_of_input : ErrorKind → Ending
ending_of_input OutOfMemory = Fault Memory
ending_of_input _ = Fault Reader
