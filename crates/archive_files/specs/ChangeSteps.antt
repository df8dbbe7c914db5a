-- What steps of the code that deletes, squeezes, renames and copies do. No contract of a public function cites these.
use Rattle.std.specs.Prelude.{◌≡◌, ◌⊎◌, ℕ, ◌<◌, Option, Some, None, Result, Ok, Err, List, length}
use Rattle.std.specs.Global.{Vec}
use Rattle.std.specs.FinMap.{get}
use Rattle.volume_image.specs.Image.{IsImageOf}
use Rattle.os8_dir.specs.Reading.{directory_of}
use Rattle.os8_dir.specs.Files.{files_of, above_of, limit_of}
use Rattle.os8_files.specs.Mounted.{MountState}
use Rattle.os8_files.specs.Calls.{HasDeleted, IsThere, entries_moved}
use Rattle.os8_files.specs.Failed.{lowest_or}
use Rattle.os8_files.specs.Renames.{HasRenamed, entries_of}
use Rattle.os8_dir.specs.declared.file_faults.FileFault.{FileFault}
use Rattle.os8_dir.specs.declared.file_faults.FileFault.TheVariants as file
use Rattle.refusals.specs.declared.faults.SessionFault.TheVariants.{Memory}
use Rattle.archive_files.specs.declared.faults.ArchiveFault.TheVariants.{Refused}
use Rattle.archive_files.specs.declared.faults.RenameFault.{RenameFault}
use Rattle.archive_files.specs.declared.faults.RenameFault.TheVariants.{Exists}
use Rattle.archive_files.specs.declared.faults.RenameFault.TheVariants as rename
use Rattle.archive_files.specs.Deleting.{AreDeleted, IsRefusedAt, IsRefusedName}
use Rattle.archive_files.specs.Squeezing.{AreMoved}
use Rattle.refusals.specs.declared.faults.SessionFault.TheVariants.{File}
use Rattle.os8_dir.specs.Names.{with_end_zeros}
use Rattle.os8_dir.specs.Entries.{IsNamed}
use Rattle.os8_dir.specs.Files.{FileData}
use Rattle.archive_files.specs.declared.faults.ArchiveFault.{ArchiveFault}
use Rattle.archive_files.specs.declared.putting.NewImage.{NewImage}
use Rattle.archive_files.specs.declared.copying.FileWords.{FileWords}
use Rattle.archive_files.specs.Asking.{Target, asked_name, AreAsked}
use Rattle.archive_files.specs.Getting.{HasFile, RefusesRead}
use Rattle.archive_files.specs.Putting.{HasPutUnder}
use Rattle.archive_files.specs.Copying.{WordsRefused}
use Rattle.archive_files.specs.Parts.{AreBlocks}

-- ## Deleting

-- the file that was wanted of a volume is taken out of it now, and named, or why not
abbrev pub DeletesOne : List (List ℕ) → MountState → Target → Result ℕ FileFault → MountState → Type 0
DeletesOne was old wanted (Ok name) new = (asked_name was wanted ≡ Some name) × HasDeleted old name new
DeletesOne was old wanted (Err file.Memory) new = Unit {0}
DeletesOne was old wanted (Err file.Device) new = 0 < new.failed_writes
DeletesOne was old wanted (Err fault) new = IsRefusedName was old wanted fault

-- the files that were wanted of a volume are taken out of it, and named, or so many were when one is refused
abbrev pub DeletesAll : MountState → List Target → Result (Unit {0}) FileFault → List ℕ → MountState → Type 0
DeletesAll old wanted (Ok done) names new = AreAsked old.blocks wanted names × AreDeleted old names new
DeletesAll old wanted (Err file.Memory) names new = Unit {0}
DeletesAll old wanted (Err file.Device) names new = 0 < new.failed_writes
DeletesAll old wanted (Err fault) names new = IsRefusedAt old.blocks old wanted (length names) fault

-- ## Squeezing

-- so many files are moved until none has a free block below it, or why not
abbrev pub SqueezesAll : MountState → Result ℕ FileFault → MountState → Type 0
SqueezesAll old (Ok turns) new = AreMoved turns old new × (above_of new.blocks ≡ 0)
SqueezesAll old (Err file.DirectoryFull) new =
    (turns : ℕ) × AreMoved turns old new × (name : ℕ) × (gap : ℕ) × (lowest_or (directory_of new.blocks) ≡ Some (name, gap)) × (limit_of new.blocks < entries_moved name new.blocks)
SqueezesAll old (Err file.Device) new = (0 < new.failed_reads) ⊎ (0 < new.failed_writes)
SqueezesAll old (Err fault) new = fault ≡ file.Memory

-- ## Renaming

-- a file of a volume has another name, or why not
abbrev pub NamesFile : MountState → ℕ → ℕ → Result (Unit {0}) RenameFault → MountState → Type 0
NamesFile old name next (Ok done) new = HasRenamed old name next new
NamesFile old name next (Err Exists) new = IsThere old name × IsThere old next
NamesFile old name next (Err (rename.Archive (Refused (File file.NotFound)))) new = get (files_of old.blocks) name ≡ None
NamesFile old name next (Err (rename.Archive (Refused (File file.DirectoryFull)))) new = IsThere old name × (get (files_of old.blocks) next ≡ None) × (limit_of old.blocks < entries_of old.blocks)
NamesFile old name next (Err (rename.Archive (Refused (File file.Device)))) new = 0 < new.failed_writes
NamesFile old name next (Err fault) new = fault ≡ rename.Archive (Refused Memory)

-- the image in which it has, or why not
abbrev pub GivesName : MountState → ℕ → ℕ → Result (Vec ℕ) RenameFault → Type 0
GivesName m name next (Ok bytes) = (after : MountState) × HasRenamed m name next after × IsImageOf bytes.items after.blocks
GivesName m name next (Err Exists) = IsThere m name × IsThere m next
GivesName m name next (Err (rename.Archive (Refused (File file.NotFound)))) = get (files_of m.blocks) name ≡ None
GivesName m name next (Err (rename.Archive (Refused (File file.DirectoryFull)))) = IsThere m name × (get (files_of m.blocks) next ≡ None) × (limit_of m.blocks < entries_of m.blocks)
GivesName m name next (Err fault) = fault ≡ rename.Archive (Refused Memory)

-- ## Copying

-- the file that is wanted is read, with its name and its information words, or why not
abbrev pub ReadsFile : List ℕ → Target → Result FileWords ArchiveFault → Type 0
ReadsFile image wanted (Ok found) = (file : FileData) × (source : HasFile image wanted file) × (found.name ≡ source.number) × IsNamed found.name
    × (found.info ≡ with_end_zeros 10 file.0) × (found.words.items ≡ file.1) × AreBlocks found.words.items
ReadsFile image wanted (Err fault) = RefusesRead image wanted fault

-- words are put into an image under a name, or why not
abbrev pub PutsBlocks : List ℕ → Option ℕ → List ℕ → List ℕ → Result NewImage ArchiveFault → Type 0
PutsBlocks image name info words (Ok new) = HasPutUnder image name (Some info) words new
PutsBlocks image name info words (Err fault) = WordsRefused image name info words fault
