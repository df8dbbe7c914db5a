-- The turns of two programs at one file, which each holds before it reads it and while it changes it.
use Rattle.std.specs.Prelude.{◌≡◌, ℕ, Bool, true, false, ◌&&◌, List, [], ◌∷◌, Option, None, Some, ◌⊎◌}
use Rattle.std.specs.Str.{bytes_eq}
use Rattle.hosts.specs.Event.{Event}
use Rattle.hosts.specs.Event as event

-- what one of two programs did: it asked to hold the file, and could or could not; it read it; it changed it; it ended, and holds it no more
pub data Turn : Type 0 where
  Hold : (who : Bool) (ok : Bool) → Turn
  Look : (who : Bool) → Turn
  Change : (who : Bool) → Turn
  End : (who : Bool) → Turn

abbrev pub without : Bool → Option Bool → Option Bool
without who None = None
without true (Some true) = None
without true (Some false) = Some false
without false (Some true) = Some true
without false (Some false) = None

-- which of them holds the file after these turns, the newest first
abbrev pub holder : List Turn → Option Bool
holder [] = None
holder (Hold who true ∷ earlier) = Some who
holder (Hold who false ∷ earlier) = holder earlier
holder (Look who ∷ earlier) = holder earlier
holder (Change who ∷ earlier) = holder earlier
holder (End who ∷ earlier) = without who (holder earlier)

-- the host lets a program hold the file only where no other one does, and a program changes it only while it holds it
abbrev pub IsLawful : List Turn → Type 0
IsLawful [] = Unit {0}
IsLawful (Hold who true ∷ earlier) = ((holder earlier ≡ None) ⊎ (holder earlier ≡ Some who)) × IsLawful earlier
IsLawful (Hold who false ∷ earlier) = IsLawful earlier
IsLawful (Look who ∷ earlier) = IsLawful earlier
IsLawful (Change who ∷ earlier) = (holder earlier ≡ Some who) × IsLawful earlier
IsLawful (End who ∷ earlier) = IsLawful earlier

-- the program goes on through these turns
abbrev pub GoesOn : Bool → List Turn → Type 0
GoesOn who [] = Unit {0}
GoesOn who (End ended ∷ earlier) = (ended ≡ who → ⊥) × GoesOn who earlier
GoesOn who (Hold other ok ∷ earlier) = GoesOn who earlier
GoesOn who (Look other ∷ earlier) = GoesOn who earlier
GoesOn who (Change other ∷ earlier) = GoesOn who earlier

-- each change among these turns is the program's own
abbrev pub AllOwn : Bool → List Turn → Type 0
AllOwn who [] = Unit {0}
AllOwn who (Change changer ∷ earlier) = (changer ≡ who) × AllOwn who earlier
AllOwn who (Hold other ok ∷ earlier) = AllOwn who earlier
AllOwn who (Look other ∷ earlier) = AllOwn who earlier
AllOwn who (End ended ∷ earlier) = AllOwn who earlier

-- a change by which the path gets other bytes
abbrev pub is_of_path : event.Change → Bool
is_of_path event.MakeBeside = false
is_of_path event.OwnBeside = false
is_of_path event.WriteBeside = false
is_of_path event.SyncBeside = false
is_of_path event.DropBeside = false
is_of_path event.DateBeside = false
is_of_path event.Rename = true
is_of_path event.LinkNew = true
is_of_path event.Claim = true
is_of_path event.DropClaim = true
is_of_path event.SyncFolder = false
is_of_path event.WriteOver = true
is_of_path event.FinishOver = true

abbrev pub put_if : Bool → Turn → List Turn → List Turn
put_if true turn before = turn ∷ before
put_if false turn before = before

-- a program may hold several files
abbrev pub with_turn : event.Call → Bool → Event → List ℕ → List Turn → List Turn
with_turn event.Hold who e path before = put_if (bytes_eq e.name path) (Hold who e.ok) before
with_turn event.Look who e path before = put_if (bytes_eq e.name path) (Look who) before
with_turn (event.Alter change) who e path before = put_if (bytes_eq e.name path && is_of_path change) (Change who) before
with_turn _ who e path before = before

-- the turns at the file of a path in what two programs did, the newest first: the calls of each in their order, and that it ended
abbrev pub turns : List ℕ → List (Bool × Option Event) → List Turn
turns path [] = []
turns path ((who, Some e) ∷ earlier) = with_turn e.call who e path (turns path earlier)
turns path ((who, None) ∷ earlier) = End who ∷ turns path earlier
