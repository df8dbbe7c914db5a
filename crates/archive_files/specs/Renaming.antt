-- The result of giving a file of an image another name.
use Rattle.std.specs.Prelude.{◌≡◌, ◌⊎◌, ℕ, ◌<◌, Some, None, Result, Ok, Err, List}
use Rattle.std.specs.FinMap.{get}
use Rattle.volume_image.specs.Image.{IsImageOf}
use Rattle.name_spelling.specs.Reading.{typed_name}
use Rattle.os8_dir.specs.Files.{files_of, limit_of}
use Rattle.os8_files.specs.Mounted.{MountState}
use Rattle.os8_files.specs.Calls.{IsThere}
use Rattle.os8_files.specs.Renames.{HasRenamed, entries_of}
use Rattle.os8_dir.specs.declared.file_faults.FileFault.TheVariants.{BadName, NotFound, DirectoryFull}
use Rattle.refusals.specs.declared.faults.SessionFault.{SessionFault}
use Rattle.refusals.specs.declared.faults.SessionFault.TheVariants.{File}
use Rattle.archive_files.specs.declared.faults.ArchiveFault.TheVariants.{Image, Directory, Refused}
use Rattle.archive_files.specs.declared.faults.RenameFault.{RenameFault}
use Rattle.archive_files.specs.declared.faults.RenameFault.TheVariants.{Archive, Exists}
use Rattle.archive_files.specs.declared.renaming.RenamedImage.{RenamedImage}
use Rattle.archive_files.specs.Asking.{Target, asked_name, IsBadName}
use Rattle.archive_files.specs.Opening.{IsOpened, IsUnopened}
use Rattle.archive_files.specs.Putting.{IsMounted}
use Rattle.archive_files.specs.Getting.{IsNoFile}

-- the new image is that of the volume in which the file that is wanted has the new name, and all else is as it was; both names are answered
pub record HasRenamedIn (image : List ℕ) (wanted : Target) (other : List ℕ) (new : RenamedImage) : Type 0 where
  pub before : MountState
  pub after : MountState
  pub mounted : IsMounted image before
  pub named : asked_name before.blocks wanted ≡ Some new.old_name
  pub next_named : typed_name other ≡ Some new.new_name
  pub renamed : HasRenamed before new.old_name new.new_name after
  pub is_image : IsImageOf new.bytes.items after.blocks

-- one of two names that were typed is none
pub record IsNoName (image : List ℕ) (wanted : Target) (other : List ℕ) : Type 0 where
  pub blocks : List (List ℕ)
  pub opened : IsOpened image blocks
  pub none : IsBadName wanted ⊎ (typed_name other ≡ None)

-- the volume has the file that is wanted, and one of the new name
pub record HasBoth (image : List ℕ) (wanted : Target) (other : List ℕ) : Type 0 where
  pub before : MountState
  pub mounted : IsMounted image before
  pub number : ℕ
  pub named : asked_name before.blocks wanted ≡ Some number
  pub there : IsThere before number
  pub next : ℕ
  pub next_named : typed_name other ≡ Some next
  pub next_there : IsThere before next

-- the volume has the file that is wanted and none of the new name, and its directory has more entries than are written
pub record HasTooMany (image : List ℕ) (wanted : Target) (other : List ℕ) : Type 0 where
  pub before : MountState
  pub mounted : IsMounted image before
  pub number : ℕ
  pub named : asked_name before.blocks wanted ≡ Some number
  pub there : IsThere before number
  pub next : ℕ
  pub next_named : typed_name other ≡ Some next
  pub fresh : get (files_of before.blocks) next ≡ None
  pub over : limit_of before.blocks < entries_of before.blocks

-- a file is not renamed, for the first of these: no name, no file, a file of the new name, too many entries
abbrev pub RenameRefused : List ℕ → Target → List ℕ → SessionFault → Type 0
RenameRefused image wanted other (File BadName) = IsNoName image wanted other
RenameRefused image wanted other (File NotFound) = ((next : ℕ) × (typed_name other ≡ Some next)) × IsNoFile image wanted
RenameRefused image wanted other (File DirectoryFull) = HasTooMany image wanted other
RenameRefused image wanted other fault = IsUnopened image (Refused fault)

abbrev pub RenamesFile : List ℕ → Target → List ℕ → Result RenamedImage RenameFault → Type 0
RenamesFile image wanted other (Ok new) = HasRenamedIn image wanted other new
RenamesFile image wanted other (Err (Archive (Image fault))) = IsUnopened image (Image fault)
RenamesFile image wanted other (Err (Archive (Directory fault))) = IsUnopened image (Directory fault)
RenamesFile image wanted other (Err (Archive (Refused fault))) = RenameRefused image wanted other fault
RenamesFile image wanted other (Err Exists) = HasBoth image wanted other
