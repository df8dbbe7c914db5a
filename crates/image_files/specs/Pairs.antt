-- Two images of a command: whether they are one, and which of them refuses.
use Rattle.std.specs.Prelude.{ℕ, Bool, true, false, ◌&&◌, Option, None, Some, List, ◌∷◌}
use Rattle.std.specs.Str.{bytes_eq}
use Rattle.hosts.specs.Event.{Event, tell_call}
use Rattle.disk_layouts.specs.declared.layouts.Layout.{Layout}
use Rattle.disk_layouts.specs.declared.layouts.Layout.TheVariants.{First, Second, Dectape}
use Rattle.refusals.specs.declared.faults.SessionFault.{SessionFault}
use Rattle.refusals.specs.declared.faults.SessionFault.TheVariants.{BadLine, NoJob, TooManyJobs, File, Asm, Tape, BadText, Reader, Writer, Memory, TooManyBreaks}
use Rattle.archive_files.specs.declared.faults.ArchiveFault.{ArchiveFault}
use Rattle.archive_files.specs.declared.faults.ArchiveFault.TheVariants as archive
use Rattle.outcome.specs.Notes.{name_text}
use Rattle.outcome.specs.declared.notes.NameNote.TheVariants as note
use Rattle.outcome.specs.declared.endings.Ending.{Ending}
use Rattle.program_tasks.specs.declared.forms.ImageForm.{ImageForm}
use Rattle.image_files.specs.Work.{OrLacks}
use Rattle.image_files.specs.Answers.{Refuses}

-- two volumes lie in the same place of a file
abbrev pub is_one_layout : Option Layout → Option Layout → Bool
is_one_layout None None = true
is_one_layout None (Some other) = false
is_one_layout (Some one) None = false
is_one_layout (Some First) (Some First) = true
is_one_layout (Some First) (Some Second) = false
is_one_layout (Some First) (Some Dectape) = false
is_one_layout (Some Second) (Some First) = false
is_one_layout (Some Second) (Some Second) = true
is_one_layout (Some Second) (Some Dectape) = false
is_one_layout (Some Dectape) (Some First) = false
is_one_layout (Some Dectape) (Some Second) = false
is_one_layout (Some Dectape) (Some Dectape) = true

-- two images are one: their files have one name, and they lie in the same place
abbrev pub is_one_image : ImageForm → ImageForm → Bool
is_one_image one other = bytes_eq one.file.bytes.items other.file.bytes.items && is_one_layout one.layout other.layout

-- memory is wanted
abbrev pub is_want : SessionFault → Bool
is_want Memory = true
is_want BadLine = false
is_want NoJob = false
is_want TooManyJobs = false
is_want (File fault) = false
is_want (Asm fault) = false
is_want (Tape fault) = false
is_want BadText = false
is_want Reader = false
is_want Writer = false
is_want TooManyBreaks = false

abbrev pub is_want_of : ArchiveFault → Bool
is_want_of (archive.Image fault) = false
is_want_of (archive.Directory fault) = false
is_want_of (archive.Refused fault) = is_want fault

-- which of two images refuses is printed, unless memory is wanted
abbrev pub RefusesIf : Bool → List ℕ → ArchiveFault → ℕ → List Event → Ending → List Event → Type 0
RefusesIf true name fault size old ending new = Refuses fault size old ending new
RefusesIf false name fault size old ending new = (ok : Bool) × Refuses fault size (tell_call ok (name_text note.Refuses name) ∷ old) ending new

abbrev pub RefusesOne : List ℕ → ArchiveFault → ℕ → List Event → Ending → List Event → Type 0
RefusesOne name fault size old ending new = RefusesIf (is_want_of fault) name fault size old ending new

-- where memory is wanted for the note, that
abbrev pub IsOneRefused : List ℕ → ArchiveFault → ℕ → List Event → Ending → List Event → Type 0
IsOneRefused name fault size = OrLacks (RefusesOne name fault size)
