-- What steps of the code that copies many files do. No contract of a public function cites these.
use Rattle.std.specs.Prelude.{◌≡◌, ℕ, Bool, Option, None, Some, Result, Ok, Err, List}
use Rattle.std.specs.Global.{Vec}
use Rattle.archive_files.specs.Asking.{AtBlock}
use Rattle.archive_files.specs.Copying.{CopiesFile, HasCopied}
use Rattle.archive_files.specs.Opening.{IsUnopened}
use Rattle.archive_files.specs.declared.putting.NewImage.{NewImage}
use Rattle.archive_many.specs.Copying.{AreCopied, IsNotCopied, KeepsOut}
use Rattle.archive_many.specs.declared.opened.VolumeFile.{VolumeFile}
use Rattle.archive_many.specs.declared.faults.CopyAllFault.{CopyAllFault}
use Rattle.archive_many.specs.declared.faults.CopyAllFault.TheVariants.{To, Exists, File, Memory}

-- none of the files is there by its name, or why they can't be put
abbrev pub RefusesOlder : Bool → List ℕ → List VolumeFile → Result (Unit {0}) CopyAllFault → Type 0
RefusesOlder is_forced to files (Ok it) = KeepsOut is_forced to files None
RefusesOlder is_forced to files (Err (To fault)) = IsUnopened to fault
RefusesOlder is_forced to files (Err (Exists file)) = KeepsOut is_forced to files (Some file)
RefusesOlder is_forced to files (Err (File file why)) = ⊥
RefusesOlder is_forced to files (Err Memory) = Unit {0}

-- a file is put into an image, or why not
abbrev pub CopiesNext : List ℕ → List ℕ → Option (List ℕ) → VolumeFile → Result (Vec ℕ) CopyAllFault → Type 0
CopiesNext from to other file (Ok image) = (next : NewImage) × HasCopied from (AtBlock file.place) to other next × (image.items ≡ next.bytes.items)
CopiesNext from to other file (Err (To fault)) = ⊥
CopiesNext from to other file (Err (Exists older)) = ⊥
CopiesNext from to other file (Err (File one why)) = (one ≡ file) × CopiesFile from (AtBlock file.place) to other (Err why)
CopiesNext from to other file (Err Memory) = ⊥

-- the files are put one after the other, or one of them is not
abbrev pub CopiesEach : List ℕ → List ℕ → Option (List ℕ) → List VolumeFile → Result (Vec ℕ) CopyAllFault → Type 0
CopiesEach from to other files (Ok image) = AreCopied from to other files image.items
CopiesEach from to other files (Err fault) = IsNotCopied from to other files fault
