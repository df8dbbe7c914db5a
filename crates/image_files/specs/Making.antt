-- The commands that make a new volume in a file.
use Rattle.std.specs.Prelude.{◌≡◌, ◌≢◌, ◌⊎◌, ◌<◌, ℕ, Bool, Result, Ok, Err, List}
use Rattle.hosts.specs.Event.{Event}
use Rattle.hosts.specs.Faults.{class_of, fault_number}
use Rattle.hosts.specs.Place.{about}
use Rattle.hosts.specs.Saving.{Makes, AnyMomentOf, replacements}
use Rattle.hosts.specs.Streams.{errors, failures, last_fault, asked_name, path_of_name, has_links}
use Rattle.hosts.specs.declared.faults.Durability.{Durability}
use Rattle.hosts.specs.declared.faults.FaultClass.{FaultClass}
use Rattle.hosts.specs.declared.faults.FaultClass.TheVariants as class
use Rattle.hosts.specs.declared.faults.HostFault.{HostFault}
use Rattle.hosts.specs.declared.faults.HostFault.TheVariants as host
use Rattle.hosts.specs.declared.faults.Unwritten.TheVariants.{AsItWas}
use Rattle.refusals.specs.declared.faults.SessionFault.TheVariants.{Memory}
use Rattle.outcome.specs.declared.contents.Content.{Content}
use Rattle.outcome.specs.declared.contents.Content.TheVariants.{Image}
use Rattle.outcome.specs.declared.endings.Ending.{Ending}
use Rattle.outcome.specs.declared.endings.Ending.TheVariants.{Line, Fault, Busy, NotWritten}
use Rattle.program_reports.specs.declared.programs.ProgramLine.TheVariants as line
use Rattle.image_files.specs.Reading.{IsIdle, with_lock_note, hold_calls}
use Rattle.image_files.specs.Reasons.{TellsFirst, TellsUnheld}
use Rattle.image_files.specs.Saving.{Writes, IsSyncTold, TouchesOnly}

-- a file for this that is to be written can't be held, or can't be made, and is as it was
abbrev pub file_ending : Content → FaultClass → Ending
file_ending content class.Busy = Busy content
file_ending content class.Memory = Fault Memory
file_ending content class.Other = NotWritten content AsItWas

abbrev pub ending_of_file : Content → HostFault → Ending
ending_of_file content fault = file_ending content (class_of fault)

-- a file that is to be the first of its name can't be made: there is one, or a call failed
abbrev pub first_ending : FaultClass → Ending
first_ending class.Busy = Line line.HostExists
first_ending class.Memory = Fault Memory
first_ending class.Other = NotWritten Image AsItWas

abbrev pub ending_of_first : HostFault → Ending
ending_of_first fault = first_ending (class_of fault)

-- A file of these bytes is made where the host says that this name has none, and replaces none. It is there whole, on the disk, unless a note says that it is not
-- known whether a crash keeps it. At each moment meanwhile a crash left what it might have left before, or the file, whole, where the file
-- system has further names.
pub record HasMade (content : Content) (name file : List ℕ) (old new : List Event) : Type 0 where
  pub asked : asked_name new ≡ name
  pub durability : Durability
  pub made : Makes (Ok durability) file (about (path_of_name new) old) (about (path_of_name new) new)
  pub first : replacements (about (path_of_name new) new) ≡ replacements (about (path_of_name new) old)
  pub moments : AnyMomentOf (has_links new) file (about (path_of_name new) old) (about (path_of_name new) new)
  pub sync : IsSyncTold content durability (errors old) (errors new)
  pub only : TouchesOnly (path_of_name new) old new

-- no file is made, since a call failed by this fault
pub record HasNotMade (name file : List ℕ) (fault : HostFault) (old new : List Event) : Type 0 where
  pub asked : asked_name new ≡ name
  pub unmade : Makes (Err fault) file (about (path_of_name new) old) (about (path_of_name new) new)
  pub first : replacements (about (path_of_name new) new) ≡ replacements (about (path_of_name new) old)
  pub moments : AnyMomentOf (has_links new) file (about (path_of_name new) old) (about (path_of_name new) new)
  pub cause : failures old < failures new
  pub why : fault_number fault ≡ last_fault new
  pub tells : errors new ≡ errors old
  pub only : TouchesOnly (path_of_name new) old new

-- a file is made where there is none of its name, or else the command ends so by a fault, which is printed
abbrev pub MakesBy : Content → (HostFault → Ending) → (HostFault → List ℕ → List Event → List Event → Type 0) → List ℕ → List ℕ → List Event → Result (Unit {0}) Ending → List Event → Type 0
MakesBy content ends tells name file old (Ok it) new = HasMade content name file old new
MakesBy content ends tells name file old (Err ending) new = (fault : HostFault) × (between : List Event) × (ending ≡ ends fault) × HasNotMade name file fault old between × tells fault name between new

-- a file of these bytes is the first of this name, or none is made
abbrev pub MakesFirst : List ℕ → List ℕ → List Event → Result (Unit {0}) Ending → List Event → Type 0
MakesFirst = MakesBy Image ending_of_first TellsFirst

-- by which fault a command ends so, whose file of a name is there and can't be held to be written
abbrev pub IsUnheldFile : Content → HostFault → Result (Unit {0}) Ending → Type 0
IsUnheldFile content fault result = (fault ≢ host.Absent) × (result ≡ Err (ending_of_file content fault))

-- A file of a name, which is for this, is to have these bytes: one that is there is held, and gets them as any image file does. Where there
-- is none, one is made. Else a call failed by another fault, which is printed, and nothing is changed.
abbrev pub MakesFile : Content → List ℕ → List ℕ → List Event → Result (Unit {0}) Ending → List Event → Type 0
MakesFile content name file old result new =
    ((path : List ℕ) × (has_lock : Bool) × (ok : Bool) × Writes content path name file (with_lock_note content has_lock ok (hold_calls name path has_lock old)) result new)
    ⊎ (((between : List Event) × IsIdle old between × (failures old < failures between) × (last_fault between ≡ fault_number host.Absent) × MakesBy content (ending_of_file content) (TellsUnheld content) name file between result new)
    ⊎ ((fault : HostFault) × (between : List Event) × IsUnheldFile content fault result × IsIdle old between × (failures old < failures between) × (last_fault between ≡ fault_number fault) × TellsUnheld content fault name between new))
