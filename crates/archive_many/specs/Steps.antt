-- What steps of the code do. No contract of a public function cites these.
use Rattle.std.specs.Prelude.{ℕ, ◌+◌, List, [], ◌∷◌, ◌++◌}
use Rattle.os8_dir.specs.declared.entries.DirEntry.{DirEntry}
use Rattle.os8_dir.specs.declared.entries.DirEntry.TheVariants.{File, Empty}
use Rattle.os8_dir.specs.Entries.{size_of}
use Rattle.archive_files.specs.declared.faults.ArchiveFault.{ArchiveFault}
use Rattle.archive_files.specs.declared.faults.ArchiveFault.TheVariants.{Image, Directory, Refused}
use Rattle.archive_files.specs.Opening.{IsUnopened}
use Rattle.archive_many.specs.declared.opened.VolumeFile.{VolumeFile}

-- bytes are no image, or memory is wanted for the volume of one
abbrev pub IsNoVolume : List ℕ → ArchiveFault → Type 0
IsNoVolume image (Image fault) = IsUnopened image (Image fault)
IsNoVolume image (Directory fault) = ⊥
IsNoVolume image (Refused fault) = IsUnopened image (Refused fault)

-- the file of an entry that begins at a block; an empty has none
abbrev pub file_of_entry : ℕ → DirEntry → List VolumeFile
file_of_entry place (File name info size) = record { name = name; place = place; blocks = size } ∷ []
file_of_entry place (Empty size) = []

-- the files of entries, the first of which begins at a block
abbrev pub files_of_entries : ℕ → List DirEntry → List VolumeFile
files_of_entries place [] = []
files_of_entries place (entry ∷ entries) = file_of_entry place entry ++ files_of_entries (place + size_of entry) entries
