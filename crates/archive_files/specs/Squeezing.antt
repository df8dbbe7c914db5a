-- The result of squeezing the volume of an image.
use Rattle.std.specs.Prelude.{◌≡◌, ℕ, zero, suc, ◌<◌, Some, Result, Ok, Err, List}
use Rattle.volume_image.specs.Image.{IsImageOf}
use Rattle.os8_dir.specs.Reading.{directory_of}
use Rattle.os8_dir.specs.Files.{files_of, above_of, capacity_of, limit_of}
use Rattle.os8_files.specs.Mounted.{MountState}
use Rattle.os8_files.specs.Calls.{HasMoved, entries_moved, info_of}
use Rattle.os8_files.specs.Failed.{lowest_or}
use Rattle.os8_dir.specs.declared.file_faults.FileFault.TheVariants.{DirectoryFull}
use Rattle.refusals.specs.declared.faults.SessionFault.{SessionFault}
use Rattle.refusals.specs.declared.faults.SessionFault.TheVariants.{File}
use Rattle.archive_files.specs.declared.faults.ArchiveFault.{ArchiveFault}
use Rattle.archive_files.specs.declared.faults.ArchiveFault.TheVariants.{Image, Directory, Refused}
use Rattle.archive_files.specs.declared.squeezing.SqueezedImage.{SqueezedImage}
use Rattle.archive_files.specs.Opening.{IsUnopened}
use Rattle.archive_files.specs.Putting.{IsMounted}

-- so many turns of squeezing, each of which moves the lowest file with an empty directly below it down by that empty's blocks
abbrev pub AreMoved : ℕ → MountState → MountState → Type 0
AreMoved zero old new = new ≡ old
AreMoved (suc turns) old new = (name : ℕ) × (next : MountState) × HasMoved old name next × AreMoved turns next new

-- The new image is that of the volume with the same files, each with its words and its information words, of which none has a free
-- block below it. Each file that had one was moved once.
pub record HasSqueezed (image : List ℕ) (new : SqueezedImage) : Type 0 where
  pub before : MountState
  pub after : MountState
  pub mounted : IsMounted image before
  pub moved : AreMoved new.move_count before after
  pub count : new.move_count ≡ above_of before.blocks
  pub files : files_of after.blocks ≡ files_of before.blocks
  pub tight : above_of after.blocks ≡ 0
  pub capacity : capacity_of after.blocks ≡ capacity_of before.blocks
  pub info : info_of after.blocks ≡ info_of before.blocks
  pub is_image : IsImageOf new.bytes.items after.blocks

-- after some turns the directory has no room for the entries that the next turn makes
pub record IsStuck (image : List ℕ) : Type 0 where
  pub before : MountState
  pub next : MountState
  pub mounted : IsMounted image before
  pub turns : ℕ
  pub moved : AreMoved turns before next
  pub name : ℕ
  pub gap : ℕ
  pub lowest : lowest_or (directory_of next.blocks) ≡ Some (name, gap)
  pub over : limit_of next.blocks < entries_moved name next.blocks

abbrev pub SqueezeRefused : List ℕ → SessionFault → Type 0
SqueezeRefused image (File DirectoryFull) = IsStuck image
SqueezeRefused image fault = IsUnopened image (Refused fault)

abbrev pub SqueezesFiles : List ℕ → Result SqueezedImage ArchiveFault → Type 0
SqueezesFiles image (Ok new) = HasSqueezed image new
SqueezesFiles image (Err (Image fault)) = IsUnopened image (Image fault)
SqueezesFiles image (Err (Directory fault)) = IsUnopened image (Directory fault)
SqueezesFiles image (Err (Refused fault)) = SqueezeRefused image fault
