-- What the end of a command means for who reads its exit status and its lines.
use Rattle.std.specs.Prelude.{◌≡◌, ◌⊎◌, ◌<◌, ℕ, Bool, Result, Ok, Err, List, [], ◌∷◌, ◌++◌}
use Rattle.hosts.specs.Event.{Event}
use Rattle.hosts.specs.Faults.{fault_number}
use Rattle.hosts.specs.Streams.{errors, failures, last_fault, output}
use Rattle.hosts.specs.declared.faults.HostFault.{HostFault}
use Rattle.host_output.specs.Printing.{AreTaken}
use Rattle.outcome.specs.declared.endings.Ending.{Ending}
use Rattle.outcome.specs.declared.endings.Ending.TheVariants.{Line, Fault, Failure, Busy, NotWritten, FullOutput, Unreported, NoReader, Misuse}
use Rattle.outcome.specs.declared.reasons.Reason.TheVariants as reason
use Rattle.image_files.specs.Reasons.{TellsReason}
use Rattle.program_laws.specs.Statuses.{failed_prints}

-- the exit status of each ending (this project's profile)
abbrev pub status_of : Result (Unit {0}) Ending → ℕ
status_of (Ok it) = 0
status_of (Err (Line line)) = 1
status_of (Err (Fault fault)) = 1
status_of (Err Failure) = 1
status_of (Err (Busy content)) = 1
status_of (Err (NotWritten content left)) = 1
status_of (Err FullOutput) = 1
status_of (Err Unreported) = 1
status_of (Err NoReader) = 141
status_of (Err Misuse) = 2

-- standard output didn't take a line since
abbrev pub HasLostLine : List Event → List Event → Type 0
HasLostLine old new = failed_prints (output old) < failed_prints (output new)

-- The status is that of the ending. Where standard output doesn't take the last line, it may be 1; or 141, after work that went well.
abbrev pub EndsWith : Result (Unit {0}) Ending → ℕ → List Event → List Event → Type 0
EndsWith work status old new = (status ≡ status_of work) ⊎ (HasLostLine old new × ((status ≡ 1) ⊎ ((status_of work ≡ 0) × (status ≡ 141))))

-- standard output gets this line, or nothing; so nothing follows a line that it did not take
abbrev pub PrintsOnce : List ℕ → List Event → List Event → Type 0
PrintsOnce line old new = (output new ≡ output old) ⊎ ((ok : Bool) × (output new ≡ (ok, line) ∷ output old))

-- of these prints, the newest first, each that has bytes is one before which standard output took all
abbrev pub NoneFollows : List (Bool × List ℕ) → Type 0
NoneFollows [] = Unit {0}
NoneFollows ((ok, bytes) ∷ earlier) = ((bytes ≡ []) ⊎ AreTaken earlier) × NoneFollows earlier

-- after a print that standard output did not take, it was given no byte more
abbrev pub StopsPrinting : List Event → List Event → Type 0
StopsPrinting old new = (since : List (Bool × List ℕ)) × (output new ≡ since ++ output old) × NoneFollows since

-- standard error gets a text, perhaps with others before and after it
abbrev pub HasTold : List ℕ → List Event → List Event → Type 0
HasTold text old new = (later before : List (Bool × List ℕ)) × (ok : Bool) × (errors new ≡ later ++ ((ok, text) ∷ (before ++ errors old)))

-- A call of the host failed, and standard error has the reason of the last one that did, last; with the file's name, if there is memory for that.
pub record HasReason (name : List ℕ) (old new : List Event) : Type 0 where
  pub fault : HostFault
  pub between : List Event
  pub failed : failures old < failures between
  pub why : fault_number fault ≡ last_fault between
  pub told : TellsReason (reason.Fault fault) name between new
