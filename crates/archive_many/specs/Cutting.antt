-- Files whose copies have fewer information words.
use Rattle.std.specs.Prelude.{◌≡◌, ◌⊎◌, ◌&&◌, ℕ, Bool, true, false, not, nat_eq, Option, None, Some, Result, Ok, Err, List, [], ◌∷◌, drop}
use Rattle.std.specs.Global.{Vec}
use Rattle.os8_dir.specs.Entries.{DirectoryState}
use Rattle.os8_dir.specs.Found.{FilePlace, files_at, find}
use Rattle.os8_dir.specs.Reading.{directory_of}
use Rattle.os8_dir.specs.declared.faults.DirFault.{DirFault}
use Rattle.archive_files.specs.declared.faults.ArchiveFault.{ArchiveFault}
use Rattle.archive_files.specs.Opening.{IsOpened, IsUnopened}
use Rattle.archive_many.specs.Opened.{information_on}
use Rattle.archive_many.specs.declared.opened.VolumeFile.{VolumeFile}

-- each is 0
abbrev pub are_zeros : List ℕ → Bool
are_zeros [] = true
are_zeros (word ∷ words) = nat_eq word 0 && are_zeros words

-- of a file's information words one after so many is not 0
abbrev pub has_more : ℕ → Option FilePlace → Bool
has_more count None = false
has_more count (Some f) = not (are_zeros (drop count f.info))

abbrev pub is_cut_in : Result DirectoryState DirFault → ℕ → ℕ → Bool
is_cut_in (Ok d) name count = has_more count (find name (files_at d.first d.entries))
is_cut_in (Err fault) name count = false

-- a copy of the file of a name with so many information words lacks one that is not 0
abbrev pub is_cut : List (List ℕ) → ℕ → ℕ → Bool
is_cut blocks name count = is_cut_in (directory_of blocks) name count

-- the same of each of some files
abbrev pub cuts_of : List (List ℕ) → ℕ → List VolumeFile → List Bool
cuts_of blocks count [] = []
cuts_of blocks count (file ∷ files) = is_cut blocks file.name count ∷ cuts_of blocks count files

abbrev pub CutsFiles : List ℕ → List ℕ → List VolumeFile → Result (Vec Bool) ArchiveFault → Type 0
CutsFiles from to files (Ok cuts) = (source target : List (List ℕ)) × IsOpened from source × IsOpened to target
    × (cuts.items ≡ cuts_of source (information_on target) files)
CutsFiles from to files (Err fault) = IsUnopened from fault ⊎ IsUnopened to fault
