-- Why a file of the host is not read, or not written, as it is printed on standard error (this project's profile).
use Rattle.std.specs.Prelude.{◌≡◌, ◌⊎◌, ℕ, Bool, true, false, List, ◌∷◌}
use Rattle.hosts.specs.Event.{Event, tell_call}
use Rattle.hosts.specs.Faults.{class_of}
use Rattle.hosts.specs.declared.faults.FaultClass.{FaultClass}
use Rattle.hosts.specs.declared.faults.FaultClass.TheVariants as class
use Rattle.hosts.specs.declared.faults.HostFault.{HostFault}
use Rattle.outcome.specs.Reasons.{reason_text, bare_text}
use Rattle.outcome.specs.declared.contents.Content.{Content}
use Rattle.outcome.specs.declared.contents.Content.TheVariants.{Image, Tape, Listing, Disk}
use Rattle.outcome.specs.declared.reasons.Reason.{Reason}
use Rattle.outcome.specs.declared.reasons.Reason.TheVariants.{Fault, Exists}

-- the text of a note on the file of a name, or the same without the name, where memory is wanted for that
abbrev pub IsReasonText : Reason → List ℕ → List ℕ → Type 0
IsReasonText why name text = (text ≡ reason_text why name) ⊎ (text ≡ bare_text why)

-- it is printed
abbrev pub TellsReason : Reason → List ℕ → List Event → List Event → Type 0
TellsReason why name old new = (text : List ℕ) × (ok : Bool) × IsReasonText why name text × (new ≡ tell_call ok text ∷ old)

abbrev pub TellsUnless : Bool → Reason → List ℕ → List Event → List Event → Type 0
TellsUnless true why name old new = new ≡ old
TellsUnless false why name old new = TellsReason why name old new

-- want of memory has a line of its own, and no note
abbrev pub is_memory : FaultClass → Bool
is_memory class.Memory = true
is_memory class.Busy = false
is_memory class.Other = false

abbrev pub is_want_of_memory : HostFault → Bool
is_want_of_memory fault = is_memory (class_of fault)

-- the fault of a call on the file of a name is printed
abbrev pub TellsFault : HostFault → List ℕ → List Event → List Event → Type 0
TellsFault fault name = TellsUnless (is_want_of_memory fault) (Fault fault) name

-- that another program works on an image is printed later, once that is tried no more
abbrev pub is_told_later : Content → Bool
is_told_later Image = true
is_told_later Tape = false
is_told_later Listing = false
is_told_later (Disk drive) = true

abbrev pub is_class_untold : Content → FaultClass → Bool
is_class_untold content class.Busy = is_told_later content
is_class_untold content class.Memory = true
is_class_untold content class.Other = false

abbrev pub is_untold : Content → HostFault → Bool
is_untold content fault = is_class_untold content (class_of fault)

-- the file of a name, which is for this, can't be held or made by this fault
abbrev pub TellsUnheld : Content → HostFault → List ℕ → List Event → List Event → Type 0
TellsUnheld content fault name = TellsUnless (is_untold content fault) (Fault fault) name

-- why a file is not the first of its name: there is one, or a call failed
abbrev pub first_reason : FaultClass → HostFault → Reason
first_reason class.Busy fault = Exists
first_reason class.Memory fault = Fault fault
first_reason class.Other fault = Fault fault

abbrev pub reason_of_first : HostFault → Reason
reason_of_first fault = first_reason (class_of fault) fault

abbrev pub TellsFirst : HostFault → List ℕ → List Event → List Event → Type 0
TellsFirst fault name = TellsUnless (is_want_of_memory fault) (reason_of_first fault) name
