-- Whether a new volume may take the place of a file. A person at a terminal is asked.
use Rattle.std.specs.Prelude.{◌≡◌, ◌⊎◌, ℕ, Bool, true, false, nat_lt, if◌then◌else◌, codes, Option, None, Some, Result, Ok, Err, List, ◌∷◌, length}
use Rattle.std.specs.Io.KnownBytes.{Consumes}
use Rattle.std.specs.Str.{bytes_eq}
use Rattle.byte_reader.specs.Readings.{Reading}
use Rattle.hosts.specs.Event.{Event, Look, failed_call, look_call, tell_call, terminal_call}
use Rattle.hosts.specs.declared.faults.HostFault.{HostFault}
use Rattle.program_reports.specs.declared.programs.ProgramLine.TheVariants as line
use Rattle.program_tasks.specs.declared.forms.CreateForm.{CreateForm}
use Rattle.outcome.specs.Notes.{name_text}
use Rattle.outcome.specs.declared.notes.NameNote.TheVariants.{Replaces}
use Rattle.outcome.specs.declared.endings.Ending.{Ending}
use Rattle.outcome.specs.declared.endings.Ending.TheVariants.{Line}
use Rattle.image_files.specs.Saving.{IsDone}
use Rattle.image_files.specs.Work.{Then, Purely, Lacks}
use Rattle.program.specs.declared.changes.Change.{Change}
use Rattle.program.specs.declared.changes.Change.TheVariants as change

-- the file in whose place a new volume comes, unless it is to be the first of its name
abbrev pub file_of_form : CreateForm → Option (List ℕ)
file_of_form form = if form.is_new then None else Some form.file.bytes.items

abbrev pub file_replaced : Change → Option (List ℕ)
file_replaced (change.Create form blocks) = file_of_form form
file_replaced (change.CreateTape form) = file_of_form form
file_replaced (change.CreateDisk form) = file_of_form form
file_replaced (change.CreateVolume image) = Some image.file.bytes.items
file_replaced other = None

-- ## The answer

-- what is taken from the input is that answer, or not
abbrev pub Answers : Reading → Bool → Type 0
Answers input is = (bytes : List ℕ) × Consumes input.before input.after bytes × (is ≡ bytes_eq bytes (codes "y\n"))

-- it is asked, and on any other answer the file stays
abbrev pub TakesAnswer : List ℕ → Reading → List Event → Result (Unit {0}) Ending → List Event → Type 0
TakesAnswer name input old (Ok it) new = Answers input true × (ok : Bool) × (new ≡ tell_call ok (name_text Replaces name) ∷ old)
TakesAnswer name input old (Err ending) new = (Answers input false × (ending ≡ Line line.HostExists) × (ok : Bool) × (new ≡ tell_call ok (name_text Replaces name) ∷ old))
    ⊎ Lacks old ending new

-- ## When it is asked

-- the file of the name can be read, and is not empty
abbrev pub IsFull : List ℕ → Bool → List Event → List Event → Type 0
IsFull name is old new = ((bytes : List ℕ) × (is ≡ nat_lt 0 (length bytes)) × (new ≡ look_call name bytes ∷ old))
    ⊎ ((fault : HostFault) × (is ≡ false) × (new ≡ failed_call Look name fault ∷ old))

abbrev pub LooksFull : List ℕ → List Event → Result Bool Ending → List Event → Type 0
LooksFull name old (Ok is) new = IsFull name is old new
LooksFull name old (Err ending) new = ⊥

-- standard error is a terminal
abbrev pub SeesErrors : List Event → Result Bool Ending → List Event → Type 0
SeesErrors old (Ok is) new = new ≡ terminal_call is 2 ∷ old
SeesErrors old (Err ending) new = ⊥

abbrev pub AsksFull : List ℕ → Reading → Bool → List Event → Result (Unit {0}) Ending → List Event → Type 0
AsksFull name input false = Purely IsDone
AsksFull name input true = TakesAnswer name input

abbrev pub AsksSeen : List ℕ → Reading → Bool → List Event → Result (Unit {0}) Ending → List Event → Type 0
AsksSeen name input false = Purely IsDone
AsksSeen name input true = Then (LooksFull name) (AsksFull name input)

-- A person who types at a terminal, and sees standard error there, is asked before a file that is not empty goes. Else nothing is asked.
abbrev pub AsksFirst : Bool → Option (List ℕ) → Reading → List Event → Result (Unit {0}) Ending → List Event → Type 0
AsksFirst false replaced input = Purely IsDone
AsksFirst true None input = Purely IsDone
AsksFirst true (Some name) input = Then SeesErrors (AsksSeen name input)
