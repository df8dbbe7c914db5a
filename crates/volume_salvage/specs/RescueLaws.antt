-- What holds of the files of a rescued volume.
use Rattle.std.specs.Prelude.{◌≡◌, ℕ, Some, None, List, [], ◌∷◌}
use Rattle.std.specs.FinMap.{from_entries, get}
use Rattle.os8_dir.specs.Files.{Files}
use Rattle.os8_dir.specs.Names.{with_end_zeros}
use Rattle.volume_salvage.specs.Rescued.{with_files}
use Rattle.volume_salvage.specs.Rows.{Differ, HasNone}
use Rattle.volume_salvage.specs.declared.volumes.KeptFile.{KeptFile}

-- each of these files is there, with its words and so many information words
abbrev pub AreThere : ℕ → Files → List KeptFile → Type 0
AreThere info files [] = Unit {0}
AreThere info files (f ∷ fs) = (get files f.name ≡ Some (with_end_zeros info f.info, f.words.items)) × AreThere info files fs

-- of files with names of their own each is there
abbrev pub KeptAreThere : Type 0
KeptAreThere = (info : ℕ) (kept : List KeptFile) → Differ kept → AreThere info (with_files info (from_entries []) kept) kept

-- and no file of another name
abbrev pub OthersAreNot : Type 0
OthersAreNot = (info name : ℕ) (kept : List KeptFile) → HasNone name kept → get (with_files info (from_entries []) kept) name ≡ None
