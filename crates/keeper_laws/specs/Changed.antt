-- What a change did to the file of an image, as its keeper may rely on it.
use Rattle.std.specs.Prelude.{◌≡◌, ◌⊎◌, ◌||◌, ℕ, suc, Bool, true, false, Option, Some, Ok, List, [], ◌∷◌}
use Rattle.std.specs.Str.{bytes_eq}
use Rattle.hosts.specs.Event.{Event}
use Rattle.hosts.specs.Place.{Place, Just, Leaves, may_leave, about, replay, ever}
use Rattle.hosts.specs.Saving.{ClearsBeside}
use Rattle.hosts.specs.Streams.{errors, folders}
use Rattle.image_kind.specs.Margins.{body_by, margins_in}
use Rattle.image_kind.specs.Volumes.{volumes_in}
use Rattle.image_kind.specs.declared.margins.Margins.{Margins}
use Rattle.image_kind.specs.declared.volumes.Volumes.{Volumes}
use Rattle.image_kind.specs.declared.volumes.Volumes.TheVariants.{One, Both}
use Rattle.outcome.specs.Contents.{content_name}
use Rattle.outcome.specs.Notes.{file_text}
use Rattle.outcome.specs.declared.contents.Content.TheVariants as content
use Rattle.outcome.specs.declared.notes.FileNote.TheVariants.{InPlace, NoSync}
use Rattle.program_tasks.specs.declared.forms.ImageForm.{ImageForm}
use Rattle.image_files.specs.Again.{IsFoundAgain}
use Rattle.image_files.specs.Laws.{ChangesNothing}
use Rattle.image_files.specs.Reading.{Holds, IsParted, IsVolumeOf, looked_name}
use Rattle.image_files.specs.Saving.{IsFileWith}
use Rattle.image_files.specs.declared.images.Image.{Image}
use Rattle.image_files.specs.declared.reading.ImagePlace.{ImagePlace}

-- ## The image before

-- this is the one volume that is meant of a file, and the bytes that stand beside it
abbrev pub IsVolumeBy : Volumes → Margins → List ℕ → Image → Type 0
IsVolumeBy (One layout) margins file image = IsVolumeOf layout (body_by margins file) image.bytes.items image.disk × IsParted margins file image.parts
IsVolumeBy Both margins file image = ⊥

-- the volume that is asked for, or else the one of what the file is taken for
abbrev pub IsVolumeIn : ImageForm → List ℕ → Image → Type 0
IsVolumeIn form file = IsVolumeBy (volumes_in form.layout form.is_plain file) (margins_in form.layout form.is_plain file) file

-- the image file that is asked for is held first, if it may be written, and this is its path
abbrev pub IsHeldAt : ImageForm → ImagePlace → List ℕ → List Event → Type 0
IsHeldAt form place path old = (begun : List Event) × Holds form.file.bytes.items old (Ok place) begun × (path ≡ looked_name place form.file.bytes.items)

-- an image file had these bytes at this path, and this was its volume
pub record IsOpened (form : ImageForm) (path was : List ℕ) (image : Image) (old : List Event) : Type 0 where
  pub held : IsHeldAt form image.place path old
  pub volume : IsVolumeIn form was image

-- ## The notes

-- a note says that an image is written in its place, or that it isn't known whether a crash keeps it
abbrev pub is_warning : List ℕ → Bool
is_warning text = bytes_eq text (file_text InPlace (content_name content.Image)) || bytes_eq text (file_text NoSync (content_name content.Image))

abbrev pub with_warning : Bool → ℕ → ℕ
with_warning true before = suc before
with_warning false before = before

-- how often standard error got such a note
abbrev pub warnings : List (Bool × List ℕ) → ℕ
warnings [] = 0
warnings ((ok, text) ∷ earlier) = with_warning (is_warning text) (warnings earlier)

-- a command printed no such note
abbrev pub IsUnwarned : List Event → List Event → Type 0
IsUnwarned old new = warnings (errors new) ≡ warnings (errors old)

-- ## The file after

-- The file at one path, and the one beside it, may be made, changed or removed, and no other. None is left beside it, unless that could not be
-- taken away. No folder is made.
pub record ChangesNoOther (path : List ℕ) (old new : List Event) : Type 0 where
  pub others : (other : List ℕ) → bytes_eq path other ≡ false → about other new ≡ about other old
  pub beside : ClearsBeside (about path old) (about path new)
  pub keeps_folders : folders new ≡ folders old

-- The file of a path, which had these bytes, has others now. Unless a note warns of it, a crash now leaves these. One at any moment before left
-- these, whole, or what it might have left before the command. No other file is changed.
pub record Becomes (path was file : List ℕ) (old new : List Event) : Type 0 where
  pub now : (start : Place) → (replay start (about path old)).seen ≡ Just (Some was) → (replay start (about path new)).seen ≡ Just (Some file)
  pub after : IsUnwarned old new → (start : Place) (found : Option (List ℕ)) → Leaves (may_leave (replay start (about path new))) found → found ≡ Some file
  pub moments : IsUnwarned old new → (start : Place) (found : Option (List ℕ)) → Leaves (ever start (about path new)) found
      → (found ≡ Some file) ⊎ Leaves (ever start (about path old)) found
  pub alone : ChangesNoOther path old new

-- The image file of a path has a volume of these bytes now, and each byte beside the volume as it was. It is held while it is changed. Where it
-- had that volume nothing is changed. Whoever reads it by such a form finds these bytes.
pub record GetsVolume (form : ImageForm) (image : Image) (path was bytes : List ℕ) (old new : List Event) : Type 0 where
  pub file : List ℕ
  pub has : ((image.place.is_held ≡ true) × IsFileWith image bytes file × Becomes path was file old new) ⊎ ((bytes ≡ image.bytes.items) × (file ≡ was) × ChangesNothing old new)
  pub found : IsFoundAgain form file bytes
