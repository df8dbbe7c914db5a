-- What `get` of several files leaves as it was.
use Rattle.std.specs.Prelude.{◌≡◌, ◌⊎◌, ℕ, Result, List}
use Rattle.hosts.specs.Event.{Event}
use Rattle.hosts.specs.Place.{about}
use Rattle.hosts.specs.Streams.{read}
use Rattle.outcome.specs.declared.endings.Ending.{Ending}
use Rattle.image_files.specs.Places.{IsSaidApart}
use Rattle.get_commands.specs.GettingMany.{path_in}

-- ## Folders

-- a path is one of a folder's
abbrev pub IsIn : List ℕ → List ℕ → Type 0
IsIn folder path = (name : List ℕ) × (path ≡ path_in folder name)

-- a command changes no path but those of a folder, in whichever way it ends
abbrev pub ChangesIn : {A : Type 0} → List ℕ → (List Event → Result A Ending → List Event → Type 0) → Type 0
ChangesIn {A} folder command = (old : List Event) (result : Result A Ending) (new : List Event) → command old result new
    → (path : List ℕ) → (IsIn folder path → ⊥) → about path new ≡ about path old

-- the file of a path is as it was, or the host has said, by the files themselves and not by their names, that it isn't the image
abbrev pub KeepsImage : {A : Type 0} → List ℕ → (List Event → Result A Ending → List Event → Type 0) → Type 0
KeepsImage {A} image command = (old : List Event) (result : Result A Ending) (new : List Event) → command old result new
    → (path : List ℕ) → (about path new ≡ about path old) ⊎ IsSaidApart path image (read new)
