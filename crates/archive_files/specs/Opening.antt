-- Which images are opened, and why others are not (this project's profile).
use Rattle.std.specs.Prelude.{◌≡◌, ◌≢◌, ℕ, List, Err}
use Rattle.volume_image.specs.Image.{IsImage, IsImageOf, ReadsImage}
use Rattle.volume_image.specs.declared.faults.ImageFault.TheVariants as image
use Rattle.os8_dir.specs.Reading.{Sound, HasFault}
use Rattle.refusals.specs.declared.faults.SessionFault.TheVariants.{Memory}
use Rattle.archive_files.specs.declared.faults.ArchiveFault.{ArchiveFault}
use Rattle.archive_files.specs.declared.faults.ArchiveFault.TheVariants.{Image, Directory, Refused}

-- the bytes are the image of a volume of these blocks, whose directory is sound
pub record IsOpened (image : List ℕ) (blocks : List (List ℕ)) : Type 0 where
  pub is_image : IsImageOf image blocks
  pub sound : Sound blocks

-- The first fault of the bytes, where they are no image; the first fault of the directory of an image; or memory was wanted
-- for an image.
abbrev pub IsUnopened : List ℕ → ArchiveFault → Type 0
IsUnopened bytes (Image fault) = (fault ≢ image.Memory) × ReadsImage bytes (Err fault)
IsUnopened bytes (Directory fault) = (blocks : List (List ℕ)) × IsImageOf bytes blocks × HasFault blocks fault
IsUnopened bytes (Refused fault) = (fault ≡ Memory) × IsImage bytes
