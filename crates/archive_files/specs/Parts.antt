-- What the parts of getting a file and of putting one do.
use Rattle.std.specs.Prelude.{◌≡◌, ℕ, ◌+◌, ◌*◌, ◌<◌, Option, Some, None, Result, Ok, Err, List, length}
use Rattle.std.specs.Global.{Vec}
use Rattle.std.specs.FinMap.{get}
use Rattle.bin_tape.specs.Fault.{IsFault}
use Rattle.word12.specs.declared.sizes.TheConstants.{BLOCK}
use Rattle.volume_image.specs.Image.{IsImageOf}
use Rattle.char_pack.specs.Packing.{frames}
use Rattle.archive_files.specs.declared.forms.GetForm.{GetForm}
use Rattle.archive_files.specs.declared.forms.GetForm.TheVariants.{Tape}
use Rattle.archive_files.specs.declared.forms.PutForm.{PutForm}
use Rattle.os8_dir.specs.Files.{FileData, files_of}
use Rattle.os8_files.specs.Mounted.{MountState}
use Rattle.os8_files.specs.Puts.{HasPutWith, PutsFileWith, blocks_filled}
use Rattle.os8_dir.specs.declared.file_faults.FileFault.{FileFault}
use Rattle.os8_dir.specs.declared.file_faults.FileFault.TheVariants as file
use Rattle.refusals.specs.declared.faults.SessionFault.{SessionFault}
use Rattle.refusals.specs.declared.faults.SessionFault.TheVariants.{File, Memory}
use Rattle.refusals.specs.declared.faults.SessionFault.TheVariants as session
use Rattle.archive_files.specs.declared.putting.NewImage.{NewImage}
use Rattle.archive_files.specs.Getting.{IsGiven}
use Rattle.archive_files.specs.Putting.{put_words, information_for, IsFit, IsUnfit, IsFull}

-- ## Getting

-- the words of a file are read, or a read failed
abbrev pub ReadsWords : MountState → ℕ → Result (Vec ℕ) FileFault → MountState → Type 0
ReadsWords old name (Ok words) new = (file : FileData) × (get (files_of old.blocks) name ≡ Some file) × (words.items ≡ file.1)
ReadsWords old name (Err file.NotFound) new = get (files_of old.blocks) name ≡ None
ReadsWords old name (Err file.Device) new = new.failed_reads ≡ old.failed_reads + 1
ReadsWords old name (Err file.Memory) new = Unit {0}
ReadsWords old name (Err fault) new = ⊥

-- the same of a volume whose reads don't fail
abbrev pub FindsWords : MountState → ℕ → Result (Vec ℕ) SessionFault → Type 0
FindsWords m name (Ok words) = (file : FileData) × (get (files_of m.blocks) name ≡ Some file) × (words.items ≡ file.1)
FindsWords m name (Err (File file.NotFound)) = get (files_of m.blocks) name ≡ None
FindsWords m name (Err fault) = fault ≡ Memory

-- what is given of a file of these words, or refused
abbrev pub GivesFile : GetForm → List ℕ → Result (Vec ℕ) SessionFault → Type 0
GivesFile form words (Ok bytes) = IsGiven form words bytes.items
GivesFile form words (Err (session.Tape fault)) = (form ≡ Tape) × IsFault (frames words) fault
GivesFile form words (Err fault) = fault ≡ Memory

-- ## Putting

-- at least one whole block of words
pub record AreBlocks (words : List ℕ) : Type 0 where
  pub some : 0 < blocks_filled words
  pub whole : BLOCK * blocks_filled words ≡ length words

-- the words of bytes in a file, or why there are none
abbrev pub MakesWords : PutForm → List ℕ → Result (Vec ℕ) SessionFault → Type 0
MakesWords form bytes (Ok words) = IsFit form bytes × (words.items ≡ put_words form bytes) × AreBlocks words.items
MakesWords form bytes (Err (File file.NothingWritten)) = IsUnfit form bytes (File file.NothingWritten)
MakesWords form bytes (Err session.BadText) = IsUnfit form bytes session.BadText
MakesWords form bytes (Err fault) = fault ≡ Memory

-- the result of putting words with these information words
abbrev pub PutsInformed : MountState → ℕ → Option (List ℕ) → List ℕ → Result (Unit {0}) FileFault → MountState → Type 0
PutsInformed old name info words result new = PutsFileWith old name (information_for old name info) words result new

-- the image with a file of these words, or why there is none
abbrev pub PutsWords : MountState → ℕ → Option (List ℕ) → List ℕ → Result NewImage SessionFault → Type 0
PutsWords m name info words (Ok new) = (new.name ≡ name) × (new.blocks ≡ blocks_filled words) × ((after : MountState) × HasPutWith m name (information_for m name info) words after × IsImageOf new.bytes.items after.blocks)
PutsWords m name info words (Err (File (file.NoRoom largest))) = IsFull m name info words (File (file.NoRoom largest))
PutsWords m name info words (Err (File file.DirectoryFull)) = IsFull m name info words (File file.DirectoryFull)
PutsWords m name info words (Err fault) = fault ≡ Memory
