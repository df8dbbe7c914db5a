-- What `get --into` and `scan --into` leave in a folder of the host.
use Rattle.std.specs.Prelude.{◌≡◌, ℕ, false, codes, Ok, List, [], ◌∷◌, ◌++◌}
use Rattle.std.specs.Global.{Vec}
use Rattle.std.specs.Str.{bytes_eq}
use Rattle.hosts.specs.Event.{Event, folder_call}
use Rattle.hosts.specs.Place.{Place, about}
use Rattle.archive_many.specs.HostNames.{NamesHost}
use Rattle.archive_many.specs.Opened.{GetsFile, OpensVolume, files_on}
use Rattle.archive_many.specs.Raw.{GetsBlocks}
use Rattle.archive_many.specs.Wishing.{wishes_of}
use Rattle.archive_many.specs.declared.wishes.Wish.{Wish}
use Rattle.archive_many.specs.declared.wishes.Wish.TheVariants as wish
use Rattle.volume_salvage.specs.Scanning.{Scans, piece_form, piece_name}
use Rattle.volume_salvage.specs.declared.pieces.Piece.{Piece}
use Rattle.volume_salvage.specs.declared.scans.Scan.{Scan}
use Rattle.program_tasks.specs.declared.forms.GetManyForm.{GetManyForm}
use Rattle.program_tasks.specs.declared.forms.ImageForm.{ImageForm}
use Rattle.image_files.specs.Reading.{LooksAt}
use Rattle.asked_files.specs.Texts.{get_form}
use Rattle.get_commands.specs.GettingMany.{path_in}
use Rattle.get_commands.specs.Wishing.{words_of}
use Rattle.keeper_laws.specs.Seen.{IsSeen}

-- ## Files of the host

-- none of these files, each a path with its bytes, has this path
abbrev pub IsPathOfNone : List ℕ → List (List ℕ × List ℕ) → Type 0
IsPathOfNone path [] = Unit {0}
IsPathOfNone path (file ∷ files) = (bytes_eq file.0 path ≡ false) × IsPathOfNone path files

-- Each of these files is at its path now, with its bytes, if no later one has that path. No other path is changed.
pub record AreWritten (files : List (List ℕ × List ℕ)) (old new : List Event) : Type 0 where
  pub each : (before after : List (List ℕ × List ℕ)) (path bytes : List ℕ) → files ≡ before ++ (path, bytes) ∷ after → IsPathOfNone path after → (start : Place) → IsSeen start path new bytes
  pub others : (path : List ℕ) → IsPathOfNone path files → about path new ≡ about path old

-- the folder of a name was made, or was there
abbrev pub HasFolder : List ℕ → List Event → List Event → Type 0
HasFolder folder old new = new ≡ folder_call folder ∷ old

-- ## Files that are got

-- The file of the host for a file of the volume that is asked for. It has the name of that in the folder, and the bytes that are got of it.
abbrev pub IsFileFor : GetManyForm → List (List ℕ) → Wish → List ℕ × List ℕ → Type 0
IsFileFor form blocks (wish.File file) host =
    (name : List ℕ) × NamesHost file name × (host.0 ≡ path_in form.folder.bytes.items name) × (got : Vec ℕ) × GetsFile blocks file (get_form form file) (Ok got) × (host.1 ≡ got.items)
IsFileFor form blocks (wish.BadWord place) host = ⊥
IsFileFor form blocks (wish.NotFound place) host = ⊥
IsFileFor form blocks (wish.Block block) host = ⊥

-- those for all that is asked for, in its order
abbrev pub AreFilesFor : GetManyForm → List (List ℕ) → List Wish → List (List ℕ × List ℕ) → Type 0
AreFilesFor form blocks [] [] = Unit {0}
AreFilesFor form blocks [] (host ∷ hosts) = ⊥
AreFilesFor form blocks (one ∷ wishes) [] = ⊥
AreFilesFor form blocks (one ∷ wishes) (host ∷ hosts) = IsFileFor form blocks one host × AreFilesFor form blocks wishes hosts

-- All files that are asked for are got. The image was looked at, and there is the folder; so far no file was changed. Each of the files is in the
-- folder now, and no other path is changed.
pub record HasGotten (form : GetManyForm) (old new : List Event) : Type 0 where
  pub image : Vec ℕ
  pub read : List Event
  pub looked : LooksAt form.image old (Ok image) read
  pub blocks : List (List ℕ)
  pub opened : OpensVolume image.items (Ok blocks)
  pub begun : List Event
  pub folder : HasFolder form.folder.bytes.items read begun
  pub hosts : List (List ℕ × List ℕ)
  pub are : AreFilesFor form blocks (wishes_of (files_on blocks) form.is_all (words_of form) form.places.items) hosts
  pub written : AreWritten hosts old new

-- ## Pieces that are found

-- the file of a piece in a folder, with what is got of its blocks
abbrev pub IsFileOf : List ℕ → List ℕ → Piece → List ℕ × List ℕ → Type 0
IsFileOf folder image piece host = (host.0 ≡ folder ++ codes "/" ++ piece_name piece) × (got : Vec ℕ) × GetsBlocks image piece.place piece.size (piece_form piece.kind) (Ok got) × (host.1 ≡ got.items)

abbrev pub AreFilesOf : List ℕ → List ℕ → List Piece → List (List ℕ × List ℕ) → Type 0
AreFilesOf folder image [] [] = Unit {0}
AreFilesOf folder image [] (host ∷ hosts) = ⊥
AreFilesOf folder image (piece ∷ pieces) [] = ⊥
AreFilesOf folder image (piece ∷ pieces) (host ∷ hosts) = IsFileOf folder image piece host × AreFilesOf folder image pieces hosts

-- All pieces of a volume are written out, as the files above are.
pub record HasWrittenOut (folder : List ℕ) (form : ImageForm) (old new : List Event) : Type 0 where
  pub image : Vec ℕ
  pub read : List Event
  pub looked : LooksAt form old (Ok image) read
  pub scan : Scan
  pub scanned : Scans image.items (Ok scan)
  pub begun : List Event
  pub made : HasFolder folder read begun
  pub hosts : List (List ℕ × List ℕ)
  pub are : AreFilesOf folder image.items scan.pieces.items hosts
  pub written : AreWritten hosts old new
