-- The files of a volume that a word chooses, and the one that is asked for (this project's profile).
use Rattle.std.specs.Prelude.{◌≡◌, ℕ, ◌<◌, ◌==◌, true, false, nat_eq, if◌then◌else◌, Option, Some, None, Result, Ok, Err, List, [], ◌∷◌, length}
use Rattle.std.specs.Global.{Vec}
use Rattle.os8_dir.specs.declared.file_faults.FileFault.{FileFault}
use Rattle.os8_dir.specs.declared.file_faults.FileFault.TheVariants as fault
use Rattle.name_spelling.specs.Patterns.{is_choice, matches}
use Rattle.name_spelling.specs.Reading.{typed_name}
use Rattle.archive_files.specs.Asking.{Target, OfName, AtBlock}
use Rattle.archive_many.specs.declared.opened.VolumeFile.{VolumeFile}
use Rattle.archive_many.specs.declared.faults.ChoiceFault.{ChoiceFault}
use Rattle.archive_many.specs.declared.faults.ChoiceFault.TheVariants.{BadName, NotFound, Memory}

-- the files whose names are like a word
abbrev pub files_like : List ℕ → List VolumeFile → List VolumeFile
files_like word [] = []
files_like word (file ∷ files) = if matches word file.name then file ∷ files_like word files else files_like word files

-- A word chooses files: it is a name or a pattern, and there is a file that is like it. All that are, in their order, are chosen.
pub record HasChosen (files : List VolumeFile) (word : List ℕ) (chosen : List VolumeFile) : Type 0 where
  pub choice : is_choice word ≡ true
  pub chosen_are : chosen ≡ files_like word files
  pub some : 0 < length chosen

-- files are chosen, or for the first of these none: the word is no name and no pattern, no file is like it, memory is wanted
abbrev pub Chooses : List VolumeFile → List ℕ → Result (Vec VolumeFile) ChoiceFault → Type 0
Chooses files word (Ok chosen) = HasChosen files word chosen.items
Chooses files word (Err BadName) = is_choice word ≡ false
Chooses files word (Err NotFound) = (is_choice word ≡ true) × (files_like word files ≡ [])
Chooses files word (Err Memory) = (is_choice word ≡ true) × (0 < length (files_like word files))

-- the file that begins at a block
abbrev pub beginning_at : ℕ → List VolumeFile → Option VolumeFile
beginning_at place [] = None
beginning_at place (file ∷ files) = if file.place == place then Some file else beginning_at place files

-- that of some files which has a name
abbrev pub file_named : ℕ → List VolumeFile → Option VolumeFile
file_named name [] = None
file_named name (file ∷ files) = if nat_eq file.name name then Some file else file_named name files

-- a file, or none is found
abbrev pub file_or_none : Option VolumeFile → Result VolumeFile FileFault
file_or_none None = Err fault.NotFound
file_or_none (Some one) = Ok one

abbrev pub file_if_named : Option ℕ → List VolumeFile → Result VolumeFile FileFault
file_if_named None files = Err fault.BadName
file_if_named (Some name) files = file_or_none (file_named name files)

-- the file that is asked for
abbrev pub file_asked : Target → List VolumeFile → Result VolumeFile FileFault
file_asked (OfName text) files = file_if_named (typed_name text) files
file_asked (AtBlock place) files = file_or_none (beginning_at place files)
