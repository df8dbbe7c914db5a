-- What holds of each survey.
use Rattle.std.specs.Prelude.{◌≡◌, ◌↔◌, ◌+◌, ◌<◌, ◌≤◌, ℕ, length, Option, Some, None, Result, Ok, Err, List, [], ◌∷◌}
use Rattle.os8_dir.specs.declared.faults.DirFault.{DirFault}
use Rattle.os8_dir.specs.Entries.{DirectoryState, AreDistinct}
use Rattle.os8_dir.specs.Found.{FilePlace, files_at}
use Rattle.os8_dir.specs.Reading.{directory_of, Sound}
use Rattle.archive_survey.specs.declared.parts.Part.TheVariants.{Segment, Fault, File, Empty}
use Rattle.archive_survey.specs.declared.answers.FoundFile.{FoundFile}
use Rattle.archive_survey.specs.declared.answers.Survey.{Survey}
use Rattle.archive_survey.specs.Findings.{Finding, Clean, Unsound, findings, files_found}
use Rattle.archive_survey.specs.Surveying.{IsSurveyed}

-- the first fault that is reported
abbrev pub first_fault : List Finding → Option DirFault
first_fault [] = None
first_fault (Clean (Segment number count) ∷ rest) = first_fault rest
first_fault (Clean (Fault fault) ∷ rest) = Some fault
first_fault (Clean (File name info place size) ∷ rest) = first_fault rest
first_fault (Clean (Empty place size) ∷ rest) = first_fault rest
first_fault (Unsound fault part ∷ rest) = Some fault

-- the fault with which a directory is refused; a sound one has none
abbrev pub fault_of : Result DirectoryState DirFault → Option DirFault
fault_of (Ok d) = None
fault_of (Err fault) = Some fault

-- the first fault that a survey reports is the one with which the directory is refused, and of a sound directory it reports none
abbrev pub FirstFaultIsTold : Type 0
FirstFaultIsTold = (image : List ℕ) (survey : Survey) (s : IsSurveyed image survey) → first_fault (findings s.blocks) ≡ fault_of (directory_of s.blocks)

-- a survey reports no fault just where the directory is sound
abbrev pub NoFaultIsSound : Type 0
NoFaultIsSound = (image : List ℕ) (survey : Survey) (s : IsSurveyed image survey) → (survey.faults ≡ 0) ↔ Sound s.blocks

-- the files of a directory with their information words
abbrev pub placed_files : List FilePlace → List FoundFile
placed_files [] = []
placed_files (f ∷ fs) = record { name = f.name; info = f.info; place = f.place; size = f.size } ∷ placed_files fs

-- of a sound directory a survey lists each file with its information words, and no other, in their order
abbrev pub FilesAreTold : Type 0
FilesAreTold = (image : List ℕ) (survey : Survey) (s : IsSurveyed image survey) (d : DirectoryState) → directory_of s.blocks ≡ Ok d
    → files_found (findings s.blocks) ≡ placed_files (files_at d.first d.entries)

-- ## The files of any survey

abbrev pub names_of_found : List FoundFile → List ℕ
names_of_found [] = []
names_of_found (f ∷ fs) = f.name ∷ names_of_found fs

-- each has a block, and lies inside a volume of so many
abbrev pub AreInside : ℕ → List FoundFile → Type 0
AreInside volume [] = Unit {0}
AreInside volume (f ∷ fs) = (0 < f.size) × (f.place + f.size ≤ volume) × AreInside volume fs

-- no two have one name, and each lies inside the volume
pub record FilesAreSound (blocks : List (List ℕ)) (files : List FoundFile) : Type 0 where
  pub distinct : AreDistinct (names_of_found files)
  pub inside : AreInside (length blocks) files

abbrev pub EachSurveyIsSound : Type 0
EachSurveyIsSound = (blocks : List (List ℕ)) → FilesAreSound blocks (files_found (findings blocks))
