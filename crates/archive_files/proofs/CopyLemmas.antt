-- Files that are read and put into another image.
use Rattle.std.proofs.Common.{◌≡◌, ◌∙◌, ◌*◌, ◌<◌, ℕ, Option, Some, Result, Ok, Err, List, length, refl, sym, ap, subst}
use Rattle.std.specs.FinMap.{get}
use Rattle.word12.specs.declared.sizes.TheConstants.{BLOCK}
use Rattle.volume_image.specs.Volume.{IsVolume}
use Rattle.os8_dir.specs.Entries.{IsNamed}
use Rattle.os8_dir.specs.Names.{with_end_zeros}
use Rattle.os8_dir.specs.Files.{FileData, files_of}
use Rattle.os8_files.specs.Mounted.{MountState}
use Rattle.os8_files.specs.Service.{blocks_in, information_of}
use Rattle.archive_files.specs.declared.faults.ArchiveFault.{ArchiveFault}
use Rattle.archive_files.specs.declared.putting.NewImage.{NewImage}
use Rattle.archive_files.specs.declared.copying.FileWords.{FileWords}
use Rattle.archive_files.specs.Asking.{Target, asked_name}
use Rattle.archive_files.specs.Getting.{HasFile}
use Rattle.archive_files.specs.Putting.{IsMounted}
use Rattle.archive_files.specs.Parts.{AreBlocks}
use Rattle.archive_files.specs.Copying.{HasCopied, WordsRefused, target}
use Rattle.archive_files.specs.ChangeSteps.{PutsBlocks, ReadsFile}
use Rattle.archive_files.proofs.LawLemmas.{some_eq}

abbrev pub WholeFiles : Type 0
WholeFiles = (blocks : List (List ℕ)) (name : ℕ) (file : FileData) → IsVolume blocks → get (files_of blocks) name ≡ Some file → BLOCK * blocks_in file ≡ length file.1

abbrev pub SomeBlocks : Type 0
SomeBlocks = (blocks : List (List ℕ)) (name : ℕ) (file : FileData) → IsVolume blocks → get (files_of blocks) name ≡ Some file → 0 < blocks_in file

file-blocks : (words : List ℕ) (file : FileData) → words ≡ file.1 → 0 < blocks_in file → BLOCK * blocks_in file ≡ length file.1 → AreBlocks words
file-blocks words file is some whole = subst AreBlocks (sym is) (record { some = some; whole = whole })

-- a file that is read has its name, its information words and its words
pub file-read : WholeFiles → SomeBlocks → (image : List ℕ) (wanted : Target) (m : MountState) (found : FileWords) (file : FileData) → IsMounted image m → asked_name m.blocks wanted ≡ Some found.name
    → IsNamed found.name → Some found.info ≡ information_of (get (files_of m.blocks) found.name) → get (files_of m.blocks) found.name ≡ Some file → found.words.items ≡ file.1
    → ReadsFile image wanted (Ok found)
file-read wholes somes image wanted m found file mounted asked named info there words = (
  file,
  record { blocks = m.blocks; opened = mounted.opened; number = found.name; named = asked; there = there },
  refl,
  named,
  some_eq found.info (with_end_zeros 10 file.0) (info ∙ ap information_of there),
  words,
  file-blocks found.words.items file words (somes m.blocks found.name file mounted.opened.is_image.volume there) (wholes m.blocks found.name file mounted.opened.is_image.volume there),
)

-- it is put with these
put-as : (from to : List ℕ) (wanted : Target) (other : Option (List ℕ)) (found : FileWords) (result : Result NewImage ArchiveFault) → (read : ReadsFile from wanted (Ok found))
    → PutsBlocks to (target found.name other) found.info found.words.items result → PutsBlocks to (target read.1.number other) (with_end_zeros 10 read.0.0) read.0.1 result
put-as from to wanted other found result read put =
    subst (λ (n : ℕ). PutsBlocks to (target n other) (with_end_zeros 10 read.0.0) read.0.1 result) read.2
    (subst (λ (l : List ℕ). PutsBlocks to (target found.name other) l read.0.1 result) read.4
    (subst (λ (l : List ℕ). PutsBlocks to (target found.name other) found.info l result) read.5 put))

pub copied : (from to : List ℕ) (wanted : Target) (other : Option (List ℕ)) (found : FileWords) (new : NewImage) → ReadsFile from wanted (Ok found)
    → PutsBlocks to (target found.name other) found.info found.words.items (Ok new) → HasCopied from wanted to other new
copied from to wanted other found new read put = record { file = read.0; source = read.1; put = put-as from to wanted other found (Ok new) read put }

pub not-copied : (from to : List ℕ) (wanted : Target) (other : Option (List ℕ)) (found : FileWords) (fault : ArchiveFault) → ReadsFile from wanted (Ok found)
    → PutsBlocks to (target found.name other) found.info found.words.items (Err fault)
    → (file : FileData) × (source : HasFile from wanted file) × WordsRefused to (target source.number other) (with_end_zeros 10 file.0) file.1 fault
not-copied from to wanted other found fault read put = (read.0, read.1, put-as from to wanted other found (Err fault) read put)

-- what is answered is what was answered
pub put-result : (to : List ℕ) (name : Option ℕ) (info words read : List ℕ) (put result answer : Result NewImage ArchiveFault) → put ≡ result → put ≡ answer → read ≡ words
    → PutsBlocks to name info read result → PutsBlocks to name info words answer
put-result to name info words read put result answer is also same puts =
    subst (λ (r : Result NewImage ArchiveFault). PutsBlocks to name info words r) (sym is ∙ also) (subst (λ (l : List ℕ). PutsBlocks to name info l result) same puts)
