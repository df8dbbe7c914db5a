-- How a file of the host is read for a command, and standard input.
use Rattle.std.specs.Prelude.{◌≡◌, ◌⊎◌, ◌<◌, ◌≤◌, ℕ, Bool, true, false, Result, Ok, Err, List, [], ◌∷◌, length, codes}
use Rattle.std.specs.Global.{Vec}
use Rattle.std.specs.Str.{bytes_eq}
use Rattle.hosts.specs.Event.{Event, TakeInput, failed_call, input_call}
use Rattle.hosts.specs.Faults.{class_of}
use Rattle.hosts.specs.declared.faults.FaultClass.{FaultClass}
use Rattle.hosts.specs.declared.faults.FaultClass.TheVariants as class
use Rattle.hosts.specs.declared.faults.HostFault.{HostFault}
use Rattle.refusals.specs.declared.faults.TheConstants.{MOST}
use Rattle.refusals.specs.declared.faults.SessionFault.TheVariants.{Reader, Memory}
use Rattle.outcome.specs.Notes.{name_text}
use Rattle.outcome.specs.declared.notes.NameNote.TheVariants.{TooLong}
use Rattle.outcome.specs.declared.endings.Ending.{Ending}
use Rattle.outcome.specs.declared.endings.Ending.TheVariants.{Fault}
use Rattle.image_files.specs.Work.{OrLacks, EndsTelling}
use Rattle.image_files.specs.Reading.{Looks}

-- standard input can't be read
abbrev pub input_ending : FaultClass → Ending
input_ending class.Memory = Fault Memory
input_ending class.Busy = Fault Reader
input_ending class.Other = Fault Reader

abbrev pub ending_of_input : HostFault → Ending
ending_of_input fault = input_ending (class_of fault)

-- it has more bytes than are read, of which a note is printed unless memory is wanted for it
abbrev pub IsLongInput : List Event → Ending → List Event → Type 0
IsLongInput = OrLacks (EndsTelling (Fault Reader) (name_text TooLong (codes "standard input")))

-- why standard input is not read: its call failed, by this fault; or it has more bytes than are read
abbrev pub IsUntaken : List Event → Ending → List Event → Type 0
IsUntaken old ending new = ((fault : HostFault) × (ending ≡ ending_of_input fault) × (new ≡ failed_call TakeInput [] fault ∷ old))
    ⊎ ((bytes : List ℕ) × (MOST < length bytes) × IsLongInput (input_call bytes ∷ old) ending new)

-- standard input is read to its end, and has no more bytes than are read
abbrev pub TakesInput : List Event → Result (Vec ℕ) Ending → List Event → Type 0
TakesInput old (Ok bytes) new = (length bytes.items ≤ MOST) × (new ≡ input_call bytes.items ∷ old)
TakesInput old (Err ending) new = IsUntaken old ending new

abbrev pub ReadsIf : Bool → List ℕ → List Event → Result (Vec ℕ) Ending → List Event → Type 0
ReadsIf true name old result new = TakesInput old result new
ReadsIf false name old result new = Looks name name old result new

-- a file of the host is read; `-` is standard input
abbrev pub Reads : List ℕ → List Event → Result (Vec ℕ) Ending → List Event → Type 0
Reads name old result new = ReadsIf (bytes_eq name (codes "-")) name old result new
