-- The lines of replies and refusals (this project's profile).
use Rattle.std.specs.Prelude.{ℕ, ◌/◌, codes, decimal, Bool, true, false, Option, Some, None, List, [], ◌∷◌, ◌++◌, Result, Ok, Err}
use Rattle.std.specs.List.{flat_map}
use Rattle.word12.specs.Octal.{octal_digit, octal4, octal5}
use Rattle.refusals.specs.Faults.{fault_line}
use Rattle.refusals.specs.Listed.{file_lines, free_line}
use Rattle.refusals.specs.Shown.{name_text}
use Rattle.script8.specs.declared.entries.Entry.{Entry}
use Rattle.script8.specs.declared.entries.Entry.TheVariants as entry
use Rattle.script8.specs.declared.entries.JobEntry.{JobEntry}
use Rattle.script8.specs.declared.entries.JobEntry.TheVariants as job
use Rattle.refusals.specs.declared.faults.SessionFault.{SessionFault}
use Rattle.refusals.specs.declared.faults.SessionFault.TheVariants.{BadLine, NoJob, TooManyJobs, File, Asm, Tape, BadText, Reader, Writer, Memory, TooManyBreaks}
use Rattle.script8.specs.declared.replies.Reply.{Reply}
use Rattle.script8.specs.declared.replies.Reply.TheVariants.{Line}
use Rattle.script8.specs.declared.replies.Reply.TheVariants as reply
use Rattle.script8.specs.declared.replies.Report.{Report}
use Rattle.script8.specs.declared.replies.Report.TheVariants.{Direct, Registers, Printed}
use Rattle.script8.specs.declared.replies.LineReply.{LineReply}
use Rattle.script8.specs.declared.replies.LineReply.TheVariants.{Stored, Deleted, Job, Working, Assembled, Loaded, Squeezed, Finished, Started, Steps, Key, Done, Switches, Core, Break}
use Rattle.script8.specs.declared.replies.StepEnd.{StepEnd}
use Rattle.script8.specs.declared.replies.StepEnd.TheVariants.{Halt, Unassigned, Limit}
use Rattle.script8.specs.declared.replies.StepEnd.TheVariants as why

-- a line of some text
abbrev pub line_of : List ℕ → List ℕ
line_of text = text ++ 0o12 ∷ []

-- a job and a text about it
abbrev pub job_text : ℕ → List ℕ → List ℕ
job_text job text = codes "JOB " ++ decimal job ++ text

-- the three octal digits of a character
abbrev pub character_text : ℕ → List ℕ
character_text character =
    octal_digit (character / 64) ∷ octal_digit (character / 8) ∷ octal_digit character ∷ []

abbrev pub why_text : StepEnd → List ℕ
why_text Halt = codes "HALT"
why_text Unassigned = codes "UNASSIGNED"
why_text why.Break = codes "BREAK"
why_text Limit = codes "LIMIT"

abbrev pub setting_text : Bool → List ℕ
setting_text true = codes "ON"
setting_text false = codes "OFF"

-- the name of a file, and its blocks
abbrev pub file_text : ℕ → ℕ → List ℕ
file_text name blocks = name_text name ++ 0o40 ∷ decimal blocks

-- the end of an assembling job
abbrev pub assembled_text : ℕ → ℕ → ℕ → List ℕ
assembled_text job name blocks = job_text job (codes " ASSEMBLED " ++ file_text name blocks)

-- the text of a reply of one line
abbrev pub line_reply_text : LineReply → List ℕ
line_reply_text (Stored name blocks) = codes "STORED " ++ file_text name blocks
line_reply_text (Deleted name) = codes "DELETED " ++ name_text name
line_reply_text (Job job) = job_text job []
line_reply_text (Working job) = codes "WORKING " ++ decimal job
line_reply_text (Assembled job name blocks) = assembled_text job name blocks
line_reply_text (Loaded job name) = job_text job (codes " LOADED " ++ name_text name)
line_reply_text (Squeezed job) = job_text job (codes " SQUEEZED")
line_reply_text Finished = codes "FINISHED"
line_reply_text (Started cell) = codes "STARTED " ++ octal5 cell
line_reply_text (Steps steps why cell) =
    codes "STEPS " ++ decimal steps ++ 0o40 ∷ why_text why ++ 0o40 ∷ octal5 cell
line_reply_text (Key character) = codes "KEY " ++ character_text character
line_reply_text Done = codes "DONE"
line_reply_text (Switches word) = codes "SWITCHES " ++ octal4 word
line_reply_text (Core cell word) = octal5 cell ++ 0o40 ∷ octal4 word
line_reply_text (Break cell is_on) = codes "BREAK " ++ octal5 cell ++ 0o40 ∷ setting_text is_on

-- a blank, and the octal digits of a character
abbrev pub printed_character : ℕ → List ℕ
printed_character character = 0o40 ∷ character_text character

-- the same of each character
abbrev pub printed_text : List ℕ → List ℕ
printed_text characters = flat_map printed_character characters

-- the lines of a report
abbrev pub report_lines : Report → List ℕ
report_lines (Direct files free) = file_lines files ++ free_line free
report_lines (Registers text) = line_of text
report_lines (Printed characters) = line_of (codes "PRINTED" ++ printed_text characters)

-- the lines of a reply
abbrev pub reply_lines : Reply → List ℕ
reply_lines (Line reply) = line_of (line_reply_text reply)
reply_lines (reply.Report report) = report_lines report

-- the job to which an entry of jobs gives a turn
abbrev pub job_of_turn : JobEntry → Option ℕ
job_of_turn (job.Assemble to from) = None
job_of_turn (job.Load name) = None
job_of_turn job.Squeeze = None
job_of_turn (job.Turn number) = Some number

-- the job to which an entry gives a turn
abbrev pub job_of_entry : Entry → Option ℕ
job_of_entry (entry.Files it) = None
job_of_entry (entry.Jobs it) = job_of_turn it
job_of_entry (entry.Console it) = None

-- the job of an entry, where there is an entry
abbrev pub job_of : Option Entry → Option ℕ
job_of None = None
job_of (Some entry) = job_of_entry entry

-- the fault of a job's end begins with the job
abbrev pub job_prefix : ℕ → SessionFault → List ℕ
job_prefix job BadLine = []
job_prefix job NoJob = []
job_prefix job TooManyJobs = []
job_prefix job (File fault) = job_text job (codes " ")
job_prefix job (Asm fault) = job_text job (codes " ")
job_prefix job (Tape fault) = job_text job (codes " ")
job_prefix job BadText = []
job_prefix job Reader = []
job_prefix job Writer = []
job_prefix job Memory = []
job_prefix job TooManyBreaks = []

-- what stands before a fault of a job's turn, or of no job's
abbrev pub fault_prefix : Option ℕ → SessionFault → List ℕ
fault_prefix None fault = []
fault_prefix (Some job) fault = job_prefix job fault

-- the lines of an answer to an entry, or to none
abbrev pub answer_lines : Option Entry → Result Reply SessionFault → List ℕ
answer_lines entry (Ok reply) = reply_lines reply
answer_lines entry (Err fault) = fault_prefix (job_of entry) fault ++ fault_line fault

-- an answer of one line
abbrev pub IsShort : Result Reply SessionFault → Type 0
IsShort (Ok (Line reply)) = Unit {0}
IsShort (Ok (reply.Report report)) = ⊥
IsShort (Err fault) = Unit {0}
