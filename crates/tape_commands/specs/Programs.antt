-- The program that a command works on: a tape in a file of the host or of a volume, or a core image of a volume.
use Rattle.std.specs.Prelude.{◌≡◌, ◌⊎◌, ℕ, nat_eq, Bool, true, false, codes, Option, None, Some, Result, Ok, Err, List, length}
use Rattle.std.specs.List.{ends_with}
use Rattle.std.specs.Global.{Vec}
use Rattle.hosts.specs.Event.{Event}
use Rattle.char_pack.specs.Packing.{words_of_bytes}
use Rattle.archive_files.specs.declared.forms.GetForm.TheVariants.{Frames, Tape}
use Rattle.core_image.specs.Converted.{IsBinOf}
use Rattle.core_image.specs.declared.faults.CoreFault.{CoreFault}
use Rattle.refusals.specs.declared.faults.SessionFault.TheVariants.{Memory}
use Rattle.archive_files.specs.Asking.{Target, OfName, target_of}
use Rattle.archive_files.specs.Getting.{Gets}
use Rattle.archive_files.specs.declared.asking.Asked.{Asked}
use Rattle.archive_files.specs.declared.faults.ArchiveFault.{ArchiveFault}
use Rattle.archive_files.specs.declared.faults.ArchiveFault.TheVariants.{Image, Directory, Refused}
use Rattle.program_reports.specs.Cores.{IsCoreFault}
use Rattle.program_reports.specs.declared.programs.ProgramLine.TheVariants as line
use Rattle.program_tasks.specs.declared.forms.ImageForm.{ImageForm}
use Rattle.program_tasks.specs.declared.forms.TapeForm.{TapeForm}
use Rattle.program_tasks.specs.declared.forms.TapeForm.TheVariants as tape
use Rattle.outcome.specs.Endings.{ending_of_archive}
use Rattle.outcome.specs.declared.endings.Ending.{Ending}
use Rattle.outcome.specs.declared.endings.Ending.TheVariants.{Line, Fault}
use Rattle.image_files.specs.Work.{Then, Purely}
use Rattle.image_files.specs.Reading.{Looks, LooksAt}
use Rattle.image_files.specs.Answers.{Answers, Refuses}
use Rattle.image_files.specs.Inputs.{TakesInput}
use Rattle.tape_commands.specs.Kinds.{RefusesTape, is_tape_fault}
use Rattle.tape_commands.specs.declared.programs.Program.{Program}

-- ## What frames give

-- they are the tape; where its program starts is not said
abbrev pub IsTapeProgram : List ℕ → Result Program Ending → Type 0
IsTapeProgram frames (Ok program) = (program.frames.items ≡ frames) × (program.start ≡ None)
IsTapeProgram frames (Err ending) = ⊥

-- they are the core image, of which the tape is made, and which says where the program starts
abbrev pub IsCoreProgram : List ℕ → Result Program Ending → Type 0
IsCoreProgram frames (Ok program) = (start : ℕ) × (program.start ≡ Some start) × IsBinOf (words_of_bytes frames) program.frames.items start
IsCoreProgram frames (Err ending) = (fault : CoreFault) × (ending ≡ Line (line.Core fault)) × IsCoreFault frames fault

-- ## A file of a volume

-- the file of a name, unless memory is wanted for that
abbrev pub IsAsked : List ℕ → Result Asked Ending → Type 0
IsAsked name (Ok asked) = target_of asked ≡ OfName name
IsAsked name (Err ending) = ending ≡ Fault Memory

-- a name is that of a core image
abbrev pub is_core_name : List ℕ → Bool
is_core_name name = ends_with nat_eq name (codes ".SV")

-- a file of a volume is the core image, all of it
abbrev pub ReadsCore : List ℕ → Target → List Event → Result Program Ending → List Event → Type 0
ReadsCore image wanted = Then (Answers (Gets image wanted Frames) (length image)) (λ frames. Purely (IsCoreProgram frames.items))

-- a file is refused since it begins with no tape
abbrev pub has_no_tape : ArchiveFault → Bool
has_no_tape (Image fault) = false
has_no_tape (Directory fault) = false
has_no_tape (Refused fault) = is_tape_fault fault

-- All that the file has is got then, and what it is is printed. Any other refusal is as that of each command on a volume.
abbrev pub RefusesIf : Bool → List ℕ → Target → ArchiveFault → List Event → Ending → List Event → Type 0
RefusesIf true image wanted fault old ending new = ((frames : Vec ℕ) × Gets image wanted Frames (Ok frames) × RefusesTape frames.items (ending_of_archive fault) old ending new)
    ⊎ Answers (Gets image wanted Frames) (length image) old (Err ending) new
RefusesIf false image wanted fault old ending new = Refuses fault (length image) old ending new

abbrev pub RefusesMember : List ℕ → Target → ArchiveFault → List Event → Ending → List Event → Type 0
RefusesMember image wanted fault old ending new = RefusesIf (has_no_tape fault) image wanted fault old ending new

-- a file of a volume begins with the tape
abbrev pub TakesTape : List ℕ → Target → List Event → Result Program Ending → List Event → Type 0
TakesTape image wanted old (Ok program) new = Gets image wanted Tape (Ok program.frames) × (program.start ≡ None) × (new ≡ old)
TakesTape image wanted old (Err ending) new = (fault : ArchiveFault) × Gets image wanted Tape (Err fault) × RefusesMember image wanted fault old ending new

-- by its name a file of a volume is a core image, or else begins with a tape
abbrev pub TakesIf : Bool → List ℕ → Target → List Event → Result Program Ending → List Event → Type 0
TakesIf true image wanted old result new = ReadsCore image wanted old result new
TakesIf false image wanted old result new = TakesTape image wanted old result new

-- an image file is read, and then the file of a name on its volume
abbrev pub ReadsMember : ImageForm → List ℕ → List Event → Result Program Ending → List Event → Type 0
ReadsMember image name = Then (Purely (IsAsked name)) (λ asked. Then (LooksAt image) (λ bytes. TakesIf (is_core_name name) bytes.items (target_of asked)))

-- ## What is named

-- a file of the host is read, or one of a volume
abbrev pub ReadsProgram : TapeForm → List Event → Result Program Ending → List Event → Type 0
ReadsProgram (tape.File file) old result new = Then (Looks file.bytes.items file.bytes.items) (λ frames. Purely (IsTapeProgram frames.items)) old result new
ReadsProgram (tape.Member image name) old result new = ReadsMember image name.bytes.items old result new

-- where none is named, standard input is read to its end
abbrev pub ReadsGiven : Option TapeForm → List Event → Result Program Ending → List Event → Type 0
ReadsGiven None old result new = Then TakesInput (λ frames. Purely (IsTapeProgram frames.items)) old result new
ReadsGiven (Some form) old result new = ReadsProgram form old result new
