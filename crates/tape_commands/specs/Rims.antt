-- The command that writes the words of a RIM tape, or a BIN tape of them.
use Rattle.std.specs.Prelude.{◌≡◌, ℕ, Option, None, Some, Result, Ok, Err, List, length}
use Rattle.std.specs.Global.{Vec}
use Rattle.hosts.specs.Event.{Event}
use Rattle.archive_files.specs.declared.forms.GetForm.TheVariants.{Frames}
use Rattle.rim_tape.specs.Fault.{IsFault}
use Rattle.rim_tape.specs.declared.faults.RimFault.{RimFault}
use Rattle.archive_files.specs.Asking.{target_of}
use Rattle.archive_files.specs.Getting.{Gets}
use Rattle.tape_reports.specs.Rims.{IsRimWritten}
use Rattle.program_reports.specs.declared.programs.ProgramLine.TheVariants as line
use Rattle.program_tasks.specs.declared.forms.ImageForm.{ImageForm}
use Rattle.program_tasks.specs.declared.forms.TapeForm.{TapeForm}
use Rattle.program_tasks.specs.declared.forms.TapeForm.TheVariants.{File, Member}
use Rattle.program_tasks.specs.declared.tasks.RimForm.{RimForm}
use Rattle.outcome.specs.declared.endings.Ending.{Ending}
use Rattle.outcome.specs.declared.endings.Ending.TheVariants.{Line}
use Rattle.image_files.specs.Work.{Then, Purely}
use Rattle.image_files.specs.Answers.{Answers}
use Rattle.image_files.specs.Inputs.{TakesInput}
use Rattle.image_files.specs.Reading.{Looks, LooksAt}
use Rattle.image_files.specs.Saving.{Prints}
use Rattle.tape_commands.specs.Programs.{IsAsked}

-- an image file is read, and then all that the file of a name has on its volume
abbrev pub GetsMember : ImageForm → List ℕ → List Event → Result (Vec ℕ) Ending → List Event → Type 0
GetsMember image name = Then (Purely (IsAsked name)) (λ asked. Then (LooksAt image) (λ bytes. Answers (Gets bytes.items (target_of asked) Frames) (length bytes.items)))

-- a file of the host is read, or one of a volume
abbrev pub ReadsNamed : TapeForm → List Event → Result (Vec ℕ) Ending → List Event → Type 0
ReadsNamed (File file) old result new = Looks file.bytes.items file.bytes.items old result new
ReadsNamed (Member image name) old result new = GetsMember image name.bytes.items old result new

-- where none is named, standard input is read to its end
abbrev pub ReadsFrames : Option TapeForm → List Event → Result (Vec ℕ) Ending → List Event → Type 0
ReadsFrames None old result new = TakesInput old result new
ReadsFrames (Some form) old result new = ReadsNamed form old result new

-- the BIN tape of a RIM tape's words, or their lines; or its fault
abbrev pub GivesRim : RimForm → List ℕ → Result (Vec ℕ) Ending → Type 0
GivesRim form frames (Ok bytes) = IsRimWritten form frames bytes.items
GivesRim form frames (Err ending) = (fault : RimFault) × (ending ≡ Line (line.Rim fault)) × IsFault frames fault

-- The tape is read, and what its words are is printed, with nothing else on standard output. No file changes.
abbrev pub WritesRim : RimForm → Option TapeForm → List Event → Result (Unit {0}) Ending → List Event → Type 0
WritesRim form given = Then (ReadsFrames given) (λ frames. Then (Purely (GivesRim form frames.items)) (λ bytes. Prints bytes.items))
