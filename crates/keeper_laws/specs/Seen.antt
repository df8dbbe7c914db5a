-- What is got of an image file in one history with the change before: a host gives what is seen of a file.
use Rattle.std.specs.Prelude.{◌≡◌, ◌≤◌, ℕ, Some, Result, List, ◌∷◌, ◌++◌, length}
use Rattle.hosts.specs.Event.{Event, look_call}
use Rattle.hosts.specs.Place.{Place, Just, about, replay}
use Rattle.outcome.specs.declared.endings.Ending.{Ending}
use Rattle.program_tasks.specs.declared.forms.ImageForm.{ImageForm}
use Rattle.refusals.specs.declared.faults.TheConstants.{MOST}
use Rattle.image_files.specs.Reading.{Looks}
use Rattle.image_files.specs.Work.{Then}
use Rattle.keeper_laws.specs.GettingBack.{PrintsOrLacks}

-- a file of these bytes is seen at a path, which was like that at first
abbrev pub IsSeen : Place → List ℕ → List Event → List ℕ → Type 0
IsSeen start path history bytes = (replay start (about path history)).seen ≡ Just (Some bytes)

-- Each look of a name that gave a whole file gave what was seen at a path then. So a reader believes of a host where the name leads to the path,
-- and no other program changes the file.
abbrev pub GivesWhatIsSeen : Place → List ℕ → List ℕ → List Event → Type 0
GivesWhatIsSeen start name path history =
    (later earlier : List Event) (bytes : List ℕ) → history ≡ later ++ look_call name bytes ∷ earlier → length bytes ≤ MOST → IsSeen start path earlier bytes

-- an image file is read, and then these bytes are printed, if standard output takes them; or memory is wanted, or the file can't be read
abbrev pub LooksAndPrints : ImageForm → List ℕ → List Event → Result (Unit {0}) Ending → List Event → Type 0
LooksAndPrints form bytes = Then (Looks form.file.bytes.items form.file.bytes.items) (λ file. PrintsOrLacks bytes)
