-- What is asked of a host by a writer that is its standard output.
use Rattle.std.specs.Prelude.{◌≡◌, ℕ, nat_eq, Bool, true, if◌then◌else◌, Option, None, Some, List, [], ◌∷◌, ◌++◌}
use Rattle.hosts.specs.Event.{Event, Print}
use Rattle.hosts.specs.Streams.{output}
use Rattle.hosts.specs.declared.faults.PrintFault.{PrintFault}
use Rattle.hosts.specs.declared.faults.PrintFault.TheVariants.{Abandoned, Failed}

-- each of these calls printed its bytes on standard output
abbrev pub ArePrinted : List Event → Type 0
ArePrinted [] = Unit {0}
ArePrinted (e ∷ earlier) = (e.call ≡ Print) × (e.ok ≡ true) × ArePrinted earlier

-- each of these calls prints bytes on standard output, and each but the newest has printed them
abbrev pub ArePrints : List Event → Type 0
ArePrints [] = Unit {0}
ArePrints (e ∷ earlier) = (e.call ≡ Print) × ArePrinted earlier

-- why the newest of these prints failed, if it did: nobody reads the pipe any more, or standard output takes no more
abbrev pub last_fault : List Event → Option PrintFault
last_fault [] = None
last_fault (e ∷ earlier) = if e.ok then None else Some (if nat_eq e.number 1 then Abandoned else Failed)

-- Nothing was asked of the host but these prints, the newest first. After one that failed there is none.
pub record HasPrinted (old new : List Event) (fault : Option PrintFault) : Type 0 where
  pub prints : List Event
  pub all : ArePrints prints
  pub calls : new ≡ prints ++ old
  pub last : fault ≡ last_fault prints

-- standard output took all of these
abbrev pub AreTaken : List (Bool × List ℕ) → Type 0
AreTaken [] = Unit {0}
AreTaken ((ok, bytes) ∷ earlier) = (ok ≡ true) × AreTaken earlier

-- it took all but the newest, and may have taken that
abbrev pub AreTakenButLast : List (Bool × List ℕ) → Type 0
AreTakenButLast [] = Unit {0}
AreTakenButLast ((ok, bytes) ∷ earlier) = AreTaken earlier

-- These were printed between some calls, the newest first. After one that standard output didn't take there is none.
pub record StopsAtFailure (old new : List Event) : Type 0 where
  pub since : List (Bool × List ℕ)
  pub are : output new ≡ since ++ output old
  pub taken : AreTakenButLast since
