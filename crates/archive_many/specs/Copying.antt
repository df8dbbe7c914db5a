-- Files of one image that are put into another, all or none.
use Rattle.std.specs.Prelude.{◌≡◌, ◌⊎◌, ℕ, Bool, if◌then◌else◌, Option, None, Some, Result, Ok, Err, List, [], ◌∷◌}
use Rattle.std.specs.Global.{Vec}
use Rattle.archive_files.specs.Asking.{AtBlock}
use Rattle.archive_files.specs.Copying.{CopiesFile, HasCopied}
use Rattle.archive_files.specs.Opening.{IsOpened, IsUnopened}
use Rattle.archive_files.specs.declared.faults.CopyFault.{CopyFault}
use Rattle.archive_files.specs.declared.putting.NewImage.{NewImage}
use Rattle.archive_many.specs.Emptying.{is_among}
use Rattle.archive_many.specs.Opened.{files_on}
use Rattle.archive_many.specs.declared.opened.VolumeFile.{VolumeFile}
use Rattle.archive_many.specs.declared.faults.CopyAllFault.{CopyAllFault}
use Rattle.archive_many.specs.declared.faults.CopyAllFault.TheVariants.{To, Exists, File, Memory}

-- ## What is there

-- the first of some files whose name one of the older files has
abbrev pub first_there : List VolumeFile → List VolumeFile → Option VolumeFile
first_there older [] = None
first_there older (file ∷ files) = if is_among file.name older then Some file else first_there older files

-- the same where no older file may go
abbrev pub first_kept : Bool → List VolumeFile → List VolumeFile → Option VolumeFile
first_kept is_forced older files = if is_forced then None else first_there older files

-- which is the first that the volume in an image keeps out, or none
abbrev pub KeepsOut : Bool → List ℕ → List VolumeFile → Option VolumeFile → Type 0
KeepsOut is_forced to files kept = (blocks : List (List ℕ)) × IsOpened to blocks × (first_kept is_forced (files_on blocks) files ≡ kept)

-- ## One file after the other

-- The files of an image, each by its first block, are put into another one after the other. Each has its name, or else a new one, its words and its
-- information words.
abbrev pub AreCopied : List ℕ → List ℕ → Option (List ℕ) → List VolumeFile → List ℕ → Type 0
AreCopied from to other [] new = new ≡ to
AreCopied from to other (file ∷ files) new = (next : NewImage) × HasCopied from (AtBlock file.place) to other next × AreCopied from next.bytes.items other files new

-- one of them can't be put after those before it
abbrev pub IsNotCopied : List ℕ → List ℕ → Option (List ℕ) → List VolumeFile → CopyAllFault → Type 0
IsNotCopied from to other [] fault = ⊥
IsNotCopied from to other (file ∷ files) fault =
    ((why : CopyFault) × CopiesFile from (AtBlock file.place) to other (Err why) × (fault ≡ File file why))
    ⊎ ((next : NewImage) × HasCopied from (AtBlock file.place) to other next × IsNotCopied from next.bytes.items other files fault)

-- ## All or none

-- The new image has all files put into it, of which none was there by its name, unless older ones may go. Or none is put, for the first of these:
-- the image that gets them is refused, an older file, one that can't be put.
abbrev pub CopiesAll : List ℕ → List ℕ → Option (List ℕ) → List VolumeFile → Bool → Result (Vec ℕ) CopyAllFault → Type 0
CopiesAll from to other files is_forced (Ok new) = KeepsOut is_forced to files None × AreCopied from to other files new.items
CopiesAll from to other files is_forced (Err (To fault)) = IsUnopened to fault
CopiesAll from to other files is_forced (Err (Exists file)) = KeepsOut is_forced to files (Some file)
CopiesAll from to other files is_forced (Err (File file why)) = KeepsOut is_forced to files None × IsNotCopied from to other files (File file why)
CopiesAll from to other files is_forced (Err Memory) = Unit {0}
