-- What is said of files that are put on a volume.
use Rattle.std.specs.Prelude.{◌≡◌, ℕ, Bool, true, false, Option, None, Some, List, ◌∷◌}
use Rattle.std.specs.Global.{Vec}
use Rattle.hosts.specs.Event.{Event, tell_call}
use Rattle.program_reports.specs.Program.{program_line}
use Rattle.program_reports.specs.declared.programs.ProgramLine.TheVariants as line
use Rattle.refusals.specs.declared.faults.SessionFault.{SessionFault}
use Rattle.refusals.specs.declared.faults.SessionFault.TheVariants.{BadLine, NoJob, TooManyJobs, File, Asm, Tape, BadText, Reader, Writer, Memory, TooManyBreaks}
use Rattle.archive_files.specs.HostTexts.{FindsBad}
use Rattle.archive_files.specs.declared.places.TextPlace.{TextPlace}
use Rattle.archive_files.specs.declared.putting.NewImage.{NewImage}
use Rattle.outcome.specs.Notes.{bad_text}

-- the information words that are given, if any are
abbrev pub words_of : Option (Vec ℕ) → Option (List ℕ)
words_of None = None
words_of (Some words) = Some words.items

-- where a text has a byte that may not stand in one
abbrev pub TellsPlace : Option TextPlace → List Event → List Event → Type 0
TellsPlace None old new = new ≡ old
TellsPlace (Some place) old new = (ok : Bool) × (new ≡ tell_call ok (bad_text place.line place.byte) ∷ old)

-- where a text can't be put, that is printed
abbrev pub TellsBad : List ℕ → List Event → List Event → Type 0
TellsBad bytes old new = (place : Option TextPlace) × FindsBad bytes place × TellsPlace place old new

-- the text is refused
abbrev pub is_bad : SessionFault → Bool
is_bad BadText = true
is_bad BadLine = false
is_bad NoJob = false
is_bad TooManyJobs = false
is_bad (File fault) = false
is_bad (Asm fault) = false
is_bad (Tape fault) = false
is_bad Reader = false
is_bad Writer = false
is_bad Memory = false
is_bad TooManyBreaks = false

-- the line of a file that was put
abbrev pub stored_line : NewImage → List ℕ
stored_line new = program_line (line.Stored new.name new.blocks)
