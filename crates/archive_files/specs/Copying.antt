-- The result of copying a file from one image into another.
use Rattle.std.specs.Prelude.{◌≡◌, ℕ, Option, Some, None, Result, Ok, Err, List}
use Rattle.os8_dir.specs.Names.{with_end_zeros}
use Rattle.name_spelling.specs.Reading.{typed_name}
use Rattle.os8_dir.specs.Files.{FileData}
use Rattle.os8_dir.specs.declared.file_faults.FileFault.TheVariants.{BadName, NoRoom, DirectoryFull}
use Rattle.refusals.specs.declared.faults.SessionFault.TheVariants.{File}
use Rattle.archive_files.specs.declared.faults.ArchiveFault.{ArchiveFault}
use Rattle.archive_files.specs.declared.faults.ArchiveFault.TheVariants.{Refused}
use Rattle.archive_files.specs.declared.faults.CopyFault.{CopyFault}
use Rattle.archive_files.specs.declared.faults.CopyFault.TheVariants.{From, To}
use Rattle.archive_files.specs.declared.putting.NewImage.{NewImage}
use Rattle.archive_files.specs.Opening.{IsOpened, IsUnopened}
use Rattle.archive_files.specs.Asking.{Target}
use Rattle.archive_files.specs.Getting.{HasFile, RefusesRead}
use Rattle.archive_files.specs.Putting.{HasPutUnder, IsFullUnder}

-- the name that a copy gets: the new one that was typed, if that is one, or else that of the file
abbrev pub target : ℕ → Option (List ℕ) → Option ℕ
target name None = Some name
target name (Some other) = typed_name other

-- the new image is that of the volume into which the file that is wanted is put with its words and its information words
pub record HasCopied (from : List ℕ) (wanted : Target) (to : List ℕ) (other : Option (List ℕ)) (new : NewImage) : Type 0 where
  pub file : FileData
  pub source : HasFile from wanted file
  pub put : HasPutUnder to (target source.number other) (Some (with_end_zeros 10 file.0)) file.1 new

-- words are not put into an image, for the first of these: a fault of the image, of its directory, no name, no room
abbrev pub WordsRefused : List ℕ → Option ℕ → List ℕ → List ℕ → ArchiveFault → Type 0
WordsRefused image name info words (Refused (File BadName)) = (blocks : List (List ℕ)) × IsOpened image blocks × (name ≡ None)
WordsRefused image name info words (Refused (File (NoRoom largest))) = IsFullUnder image name (Some info) words (File (NoRoom largest))
WordsRefused image name info words (Refused (File DirectoryFull)) = IsFullUnder image name (Some info) words (File DirectoryFull)
WordsRefused image name info words fault = IsUnopened image fault

abbrev pub CopiesFile : List ℕ → Target → List ℕ → Option (List ℕ) → Result NewImage CopyFault → Type 0
CopiesFile from wanted to other (Ok new) = HasCopied from wanted to other new
CopiesFile from wanted to other (Err (From fault)) = RefusesRead from wanted fault
CopiesFile from wanted to other (Err (To fault)) = (file : FileData) × (source : HasFile from wanted file) × WordsRefused to (target source.number other) (with_end_zeros 10 file.0) file.1 fault
