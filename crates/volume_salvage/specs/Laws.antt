-- What holds of each salvage.
use Rattle.std.specs.Prelude.{◌≡◌, ℕ, false, Option, None, Some, List, [], ◌∷◌, map}
use Rattle.std.specs.FinMap.{get}
use Rattle.os8_dir.specs.Entries.{contains}
use Rattle.os8_dir.specs.Files.{Files, files_of, run}
use Rattle.os8_dir.specs.Found.{FilePlace}
use Rattle.os8_dir.specs.Names.{with_end_zeros}
use Rattle.os8_dir.specs.Reading.{directory_of}
use Rattle.os8_files.specs.Calls.{info_of}
use Rattle.volume_salvage.specs.Rows.{files_by_place}
use Rattle.volume_salvage.specs.declared.faults.Refusal.{Refusal}
use Rattle.archive_survey.specs.declared.answers.FoundFile.{FoundFile}
use Rattle.archive_survey.specs.Findings.{findings, files_found}
use Rattle.archive_survey.specs.Laws.{names_of_found}
use Rattle.volume_salvage.specs.Salvaging.{IsSalvaged}
use Rattle.volume_salvage.specs.declared.salvages.Salvage.{Salvage}

-- each file that is not refused is there, with the words of its blocks and so many of its information words
abbrev pub AreFilesThere : ℕ → Files → List (List ℕ) → List FoundFile → List (Option Refusal) → Type 0
AreFilesThere info there blocks [] refusals = Unit {0}
AreFilesThere info there blocks (f ∷ files) [] = ⊥
AreFilesThere info there blocks (f ∷ files) (None ∷ refusals) =
    (get there f.name ≡ Some (with_end_zeros info f.info, run blocks f.place f.size)) × AreFilesThere info there blocks files refusals
AreFilesThere info there blocks (f ∷ files) (Some refusal ∷ refusals) = AreFilesThere info there blocks files refusals

-- each file that a survey reports as sound, and that is not refused, is a file of the new volume with the same words
abbrev pub EachFileIsThere : Type 0
EachFileIsThere = (image : List ℕ) (salvage : Salvage) (s : IsSalvaged image salvage)
    → AreFilesThere (info_of s.of_blocks.fitted.rescued.blocks) (files_of s.of_blocks.fitted.rescued.blocks) s.blocks (files_found (findings s.blocks)) s.of_blocks.volume.refusals.items

-- the new volume has no file of another name
abbrev pub OtherFilesAreNot : Type 0
OtherFilesAreNot = (image : List ℕ) (salvage : Salvage) (s : IsSalvaged image salvage) (name : ℕ) → contains (names_of_found (files_found (findings s.blocks))) name ≡ false
    → get (files_of s.of_blocks.fitted.rescued.blocks) name ≡ None

-- the names of the files that are not refused
abbrev pub names_kept : List FoundFile → List (Option Refusal) → List ℕ
names_kept [] refusals = []
names_kept (f ∷ files) [] = []
names_kept (f ∷ files) (None ∷ refusals) = f.name ∷ names_kept files refusals
names_kept (f ∷ files) (Some refusal ∷ refusals) = names_kept files refusals

-- by their blocks the files of the new volume have the order in which the survey reports them
abbrev pub FilesAreInOrder : Type 0
FilesAreInOrder = (image : List ℕ) (salvage : Salvage) (s : IsSalvaged image salvage)
    → map (λ (f : FilePlace). f.name) (files_by_place (directory_of s.of_blocks.fitted.rescued.blocks)) ≡ names_kept (files_found (findings s.blocks)) s.of_blocks.volume.refusals.items
