-- The files that a damaged volume still shows, in a new one (this project's profile).
use Rattle.std.specs.Prelude.{◌≡◌, ℕ, ◌+◌, ◌&&◌, Bool, true, nat_eq, if◌then◌else◌, codes, decimal, Option, None, Some, Result, Ok, Err, List, [], ◌∷◌, ◌++◌, length, drop}
use Rattle.volume_image.specs.Image.{IsImageOf, ReadsImage}
use Rattle.os8_dir.specs.Files.{run}
use Rattle.volume_salvage.specs.Rescued.{IsFitted}
use Rattle.volume_salvage.specs.declared.faults.Refusal.{Refusal}
use Rattle.volume_salvage.specs.declared.faults.Refusal.TheVariants.{NoName, NotWhole, NoRoom, DirectoryFull, Failed}
use Rattle.volume_salvage.specs.declared.fitting.FittedVolume.{FittedVolume}
use Rattle.volume_salvage.specs.declared.volumes.KeptFile.{KeptFile}
use Rattle.name_spelling.specs.Spelling.{text_of}
use Rattle.refusals.specs.declared.faults.SessionFault.TheVariants.{Memory}
use Rattle.archive_files.specs.declared.faults.ArchiveFault.{ArchiveFault}
use Rattle.archive_files.specs.declared.faults.ArchiveFault.TheVariants.{Image, Directory, Refused}
use Rattle.archive_survey.specs.declared.answers.FoundFile.{FoundFile}
use Rattle.archive_survey.specs.Findings.{findings, files_found}
use Rattle.archive_survey.specs.Lines.{survey_losses}
use Rattle.volume_salvage.specs.declared.salvages.Salvage.{Salvage}

-- each file with the words of its blocks
abbrev pub AreFilesOf : List (List ℕ) → List FoundFile → List KeptFile → Type 0
AreFilesOf blocks [] [] = Unit {0}
AreFilesOf blocks [] (k ∷ kept) = ⊥
AreFilesOf blocks (f ∷ files) [] = ⊥
AreFilesOf blocks (f ∷ files) (k ∷ kept) =
    (k.name ≡ f.name) × (k.info ≡ f.info) × (k.words.items ≡ run blocks f.place f.size) × AreFilesOf blocks files kept

-- ## The lines of what is lost

-- why a file is not kept
abbrev pub no_room_line : ℕ → List ℕ
no_room_line largest = codes "? 4.2 NO ROOM " ++ decimal largest ++ 0o12 ∷ []

abbrev pub reason_text : Refusal → List ℕ
reason_text (NoName at) = codes "? 4.5 BAD NAME\n"
reason_text (NotWhole at) = codes "? 4.11 NOTHING WRITTEN\n"
reason_text (NoRoom at largest) = no_room_line largest
reason_text (DirectoryFull at) = codes "? 4.3 DIRECTORY FULL\n"
reason_text (Failed at) = codes "? 10 MEMORY\n"

-- a file's name, its first block, and its length
abbrev pub extent_text : ℕ → ℕ → ℕ → List ℕ
extent_text name place size = text_of name ++ 0o40 ∷ decimal place ++ 0o40 ∷ decimal size ++ 0o12 ∷ []

-- a file's name, its first block in the old volume, and its length
abbrev pub place_text : FoundFile → List ℕ
place_text f = extent_text f.name f.place f.size

-- the line of a file that lacks some of its information words
abbrev pub cut_line : ℕ → ℕ → ℕ → List ℕ
cut_line name place size = codes "CUT FILE " ++ extent_text name place size

-- each is 0
abbrev pub are_zeros : List ℕ → Bool
are_zeros [] = true
are_zeros (word ∷ words) = nat_eq word 0 && are_zeros words

-- of its information words a new directory has room for all that are not 0
abbrev pub is_whole : FoundFile → Bool
is_whole f = are_zeros (drop 1 f.info)

-- the line of a file that is left out, or of one that is kept without some of its information words
abbrev pub file_line : FoundFile → Option Refusal → List ℕ
file_line f (Some refusal) = reason_text refusal ++ codes "LEFT FILE " ++ place_text f
file_line f None = if is_whole f then [] else cut_line f.name f.place f.size

abbrev pub file_lines : List FoundFile → List (Option Refusal) → List ℕ
file_lines [] refusals = []
file_lines (f ∷ files) [] = []
file_lines (f ∷ files) (refusal ∷ refusals) = file_line f refusal ++ file_lines files refusals

-- how many files are kept
abbrev pub one_if_kept : Option Refusal → ℕ
one_if_kept None = 1
one_if_kept (Some refusal) = 0

abbrev pub count_kept : List (Option Refusal) → ℕ
count_kept [] = 0
count_kept (refusal ∷ refusals) = one_if_kept refusal + count_kept refusals

-- the last line
abbrev pub rescued_line : ℕ → List ℕ
rescued_line files = codes "RESCUED " ++ decimal files ++ 0o12 ∷ []

-- ## The new volume

-- Of a volume of these blocks each file that a survey reports as sound is put into a new one of as many blocks, with its words. What
-- the survey reports of faults, and what is not put or not whole, is in the lines.
pub record IsSalvageOf (blocks : List (List ℕ)) (salvage : Salvage) : Type 0 where
  pub kept : List KeptFile
  pub files : AreFilesOf blocks (files_found (findings blocks)) kept
  pub volume : FittedVolume
  pub fitted : IsFitted (length blocks) kept volume
  pub image : salvage.image.items ≡ volume.image.items
  pub losses : salvage.losses.items ≡ survey_losses blocks ++ file_lines (files_found (findings blocks)) volume.refusals.items
  pub count : salvage.files ≡ count_kept volume.refusals.items

-- the same of an image
pub record IsSalvaged (image : List ℕ) (salvage : Salvage) : Type 0 where
  pub blocks : List (List ℕ)
  pub is_image : IsImageOf image blocks
  pub of_blocks : IsSalvageOf blocks salvage

-- why bytes are no image: the first of their faults; or memory is wanted
abbrev pub IsNoImage : List ℕ → ArchiveFault → Type 0
IsNoImage image (Image fault) = ReadsImage image (Err fault)
IsNoImage image (Directory fault) = ⊥
IsNoImage image (Refused fault) = fault ≡ Memory

-- what is answered where the files of an image are to be salvaged: bytes that are none are refused
abbrev pub Salvages : List ℕ → Result Salvage ArchiveFault → Type 0
Salvages image (Ok salvage) = IsSalvaged image salvage
Salvages image (Err fault) = IsNoImage image fault

-- the lines of what is lost, and the one that counts the files
abbrev pub rescued_text : Salvage → List ℕ
rescued_text salvage = salvage.losses.items ++ rescued_line salvage.files

-- no line reports a loss
abbrev pub is_complete : Salvage → Bool
is_complete salvage = nat_eq (length salvage.losses.items) 0
