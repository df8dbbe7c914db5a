-- What is got of blocks of an image, whatever its directory says.
use Rattle.std.specs.Prelude.{◌≡◌, ℕ, ◌+◌, ◌<◌, ◌≤◌, Result, Ok, Err, List, length}
use Rattle.std.specs.Global.{Vec}
use Rattle.bin_tape.specs.Fault.{IsFault}
use Rattle.volume_image.specs.Image.{IsImageOf}
use Rattle.char_pack.specs.Packing.{frames}
use Rattle.archive_files.specs.declared.forms.GetForm.{GetForm}
use Rattle.archive_files.specs.declared.forms.GetForm.TheVariants.{Tape}
use Rattle.os8_dir.specs.Files.{run}
use Rattle.refusals.specs.declared.faults.SessionFault.{SessionFault}
use Rattle.refusals.specs.declared.faults.SessionFault.TheVariants as session
use Rattle.archive_files.specs.declared.faults.ArchiveFault.TheVariants.{Image, Directory, Refused}
use Rattle.archive_files.specs.Opening.{IsUnopened}
use Rattle.archive_files.specs.Getting.{IsGiven}
use Rattle.archive_many.specs.declared.faults.BlocksFault.{BlocksFault}
use Rattle.archive_many.specs.declared.faults.BlocksFault.TheVariants.{Archive, NoBlocks}

-- the bytes are an image that has so many blocks from the first on, which hold these words
pub record HasBlocks (image : List ℕ) (first count : ℕ) (words : List ℕ) : Type 0 where
  pub blocks : List (List ℕ)
  pub is_image : IsImageOf image blocks
  pub inside : first + count ≤ length blocks
  pub words_are : words ≡ run blocks first count

-- the bytes are an image that has not so many blocks, but only these
pub record HasNoBlocks (image : List ℕ) (first count has : ℕ) : Type 0 where
  pub blocks : List (List ℕ)
  pub is_image : IsImageOf image blocks
  pub has_are : has ≡ length blocks
  pub short : has < first + count

-- what is not given of blocks that are there: no tape, or memory is wanted
abbrev pub BlocksRefused : List ℕ → ℕ → ℕ → GetForm → SessionFault → Type 0
BlocksRefused image first count form (session.Tape fault) = (words : List ℕ) × HasBlocks image first count words × (form ≡ Tape) × IsFault (frames words) fault
BlocksRefused image first count form fault = IsUnopened image (Refused fault)

-- what is given of the words of blocks, or for the first of these nothing: no image, no such blocks, no tape
abbrev pub GetsBlocks : List ℕ → ℕ → ℕ → GetForm → Result (Vec ℕ) BlocksFault → Type 0
GetsBlocks image first count form (Ok bytes) = (words : List ℕ) × HasBlocks image first count words × IsGiven form words bytes.items
GetsBlocks image first count form (Err (NoBlocks has)) = HasNoBlocks image first count has
GetsBlocks image first count form (Err (Archive (Image fault))) = IsUnopened image (Image fault)
GetsBlocks image first count form (Err (Archive (Directory fault))) = ⊥
GetsBlocks image first count form (Err (Archive (Refused fault))) = BlocksRefused image first count form fault
