-- The table of outcomes: what each stream gets at the end of a command, and the exit status (this project's profile).
use Rattle.std.specs.Prelude.{ℕ, Bool, true, false, List, [], ◌++◌, Result, Ok, Err}
use Rattle.hosts.specs.declared.faults.Unwritten.{Unwritten}
use Rattle.hosts.specs.declared.faults.Unwritten.TheVariants as unwritten
use Rattle.refusals.specs.Faults.{fault_line}
use Rattle.refusals.specs.declared.faults.SessionFault.{SessionFault}
use Rattle.refusals.specs.declared.faults.SessionFault.TheVariants.{BadLine, NoJob, TooManyJobs, File, Asm, Tape, BadText, Reader, Writer, Memory, TooManyBreaks}
use Rattle.program_reports.specs.Program.{program_line}
use Rattle.outcome.specs.Contents.{content_name, line_of_busy, line_of_write}
use Rattle.outcome.specs.Notes.{file_text}
use Rattle.outcome.specs.declared.contents.Content.{Content}
use Rattle.outcome.specs.declared.notes.FileNote.{FileNote}
use Rattle.outcome.specs.declared.notes.FileNote.TheVariants as file
use Rattle.outcome.specs.declared.endings.Ending.{Ending}
use Rattle.outcome.specs.declared.endings.Ending.TheVariants as ending

-- what each stream gets, and the exit status
pub record Writing : Type 0 where
  pub output : List ℕ
  pub errors : List ℕ
  pub status : ℕ

-- A refusal has status 1. Its line goes to standard output where the command puts lines there, and to standard error where it puts data
-- there. Its note goes to standard error, before that.
abbrev pub refusal : Bool → List ℕ → List ℕ → Writing
refusal false note line = record { output = line; errors = note; status = 1 }
refusal true note line = record { output = []; errors = note ++ line; status = 1 }

-- nothing is printed, or nothing more
abbrev pub silence : ℕ → Writing
silence status = record { output = []; errors = []; status = status }

-- standard output takes no more, and a line on standard error says so
abbrev pub full_output : Writing
full_output = record { output = []; errors = fault_line Writer; status = 1 }

-- a fault by its number; that of the writer is one of standard output
abbrev pub fault_outcome : Bool → SessionFault → Writing
fault_outcome is_data Writer = full_output
fault_outcome is_data BadLine = refusal is_data [] (fault_line BadLine)
fault_outcome is_data NoJob = refusal is_data [] (fault_line NoJob)
fault_outcome is_data TooManyJobs = refusal is_data [] (fault_line TooManyJobs)
fault_outcome is_data (File fault) = refusal is_data [] (fault_line (File fault))
fault_outcome is_data (Asm fault) = refusal is_data [] (fault_line (Asm fault))
fault_outcome is_data (Tape fault) = refusal is_data [] (fault_line (Tape fault))
fault_outcome is_data BadText = refusal is_data [] (fault_line BadText)
fault_outcome is_data Reader = refusal is_data [] (fault_line Reader)
fault_outcome is_data Memory = refusal is_data [] (fault_line Memory)
fault_outcome is_data TooManyBreaks = refusal is_data [] (fault_line TooManyBreaks)

-- the note on a file that could not be written
abbrev pub note_of_write : Unwritten → FileNote
note_of_write unwritten.AsItWas = file.AsItWas
note_of_write unwritten.InPart = file.InPart

-- a note on a file of the host
abbrev pub note_on : FileNote → Content → List ℕ
note_on note content = file_text note (content_name content)

-- of a command whose output is data, or lines
abbrev pub ending_outcome : Bool → Ending → Writing
ending_outcome is_data (ending.Line line) = refusal is_data [] (program_line line)
ending_outcome is_data (ending.Fault fault) = fault_outcome is_data fault
ending_outcome is_data ending.Failure = silence 1
ending_outcome is_data (ending.Busy content) = refusal is_data (note_on file.Busy content) (program_line (line_of_busy content))
ending_outcome is_data (ending.NotWritten content left) = refusal is_data (note_on (note_of_write left) content) (program_line (line_of_write content))
ending_outcome is_data ending.FullOutput = full_output
ending_outcome is_data ending.Unreported = full_output
ending_outcome is_data ending.NoReader = silence 141
ending_outcome is_data ending.Misuse = silence 2

-- of a command that ends in its work, or before
abbrev pub outcome_of : Bool → Result (Unit {0}) Ending → Writing
outcome_of is_data (Ok nothing) = silence 0
outcome_of is_data (Err ending) = ending_outcome is_data ending
