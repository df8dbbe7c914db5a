-- What a run of a script means for who keeps images.
use Rattle.std.specs.Prelude.{◌≡◌, ◌⊎◌, ℕ, List, [], ◌∷◌, ◌++◌, Bool, false, Option, None, Some}
use Rattle.disk_layouts.specs.Files.{Disk}
use Rattle.hosts.specs.Event.{Event}
use Rattle.hosts.specs.Streams.{may_replace}
use Rattle.image_kind.specs.Parts.{Parts, file_of}
use Rattle.volume_image.specs.Image.{IsImageOf}
use Rattle.image_files.specs.declared.images.Image.{Image}
use Rattle.script_commands.specs.Steps.{Step, Saves, Fails, Replies, Prints, Refuses, Shows, Cuts, AreDone, last_image}

-- the bytes of the volumes of which one has an image
abbrev pub body_of : Option Disk → List ℕ → List ℕ
body_of None image = image
body_of (Some disk) image = disk.bytes

-- the bytes of a file with these bytes of its volumes
abbrev pub file_around : Option Parts → List ℕ → List ℕ
file_around None body = body
file_around (Some parts) body = file_of parts

-- those of the file that has an image
abbrev pub image_file : Image → List ℕ
image_file image = file_around image.parts (body_of image.disk image.bytes.items)

-- a file is one of those that the steps wrote
abbrev pub IsOneOf : Option (List ℕ) → List Step → Type 0
IsOneOf found [] = ⊥
IsOneOf found (Saves image durability ∷ earlier) = (found ≡ Some (image_file image)) ⊎ IsOneOf found earlier
IsOneOf found (Fails ending ∷ earlier) = IsOneOf found earlier
IsOneOf found (Replies entry answer blocks ∷ earlier) = IsOneOf found earlier
IsOneOf found (Prints bytes ∷ earlier) = IsOneOf found earlier
IsOneOf found (Refuses fault bytes ∷ earlier) = IsOneOf found earlier
IsOneOf found (Shows form ∷ earlier) = IsOneOf found earlier
IsOneOf found (Cuts ∷ earlier) = IsOneOf found earlier

-- the host said of the file by some of these steps that it is written in its place
pub record IsInPlace (is_typed : Bool) (start : Image) (steps : List Step) (old : List Event) : Type 0 where
  pub later : List Step
  pub earlier : List Step
  pub parts : steps ≡ later ++ earlier
  pub moment : List Event
  pub done : AreDone is_typed start earlier old moment
  pub over : may_replace moment ≡ false

-- when the lines of an answer were handed on, the file had the image of these blocks, and no line was printed but those before
pub record IsKeptBefore (is_typed : Bool) (start : Image) (earlier : List Step) (blocks : List (List ℕ)) (old : List Event) : Type 0 where
  pub moment : List Event
  pub done : AreDone is_typed start earlier old moment
  pub saved : IsImageOf (last_image start earlier).bytes.items blocks

-- none of these steps printed lines, or tried to
abbrev pub PrintNothing : List Step → Type 0
PrintNothing [] = Unit {0}
PrintNothing (Saves image durability ∷ earlier) = PrintNothing earlier
PrintNothing (Fails ending ∷ earlier) = PrintNothing earlier
PrintNothing (Replies entry answer blocks ∷ earlier) = PrintNothing earlier
PrintNothing (Prints bytes ∷ earlier) = ⊥
PrintNothing (Refuses fault bytes ∷ earlier) = ⊥
PrintNothing (Shows form ∷ earlier) = PrintNothing earlier
PrintNothing (Cuts ∷ earlier) = PrintNothing earlier
