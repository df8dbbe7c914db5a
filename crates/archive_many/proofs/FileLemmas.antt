-- The files of a directory.
use Rattle.std.proofs.Common.{◌≡◌, ◌≢◌, ℕ, zero, suc, ◌+◌, ◌*◌, ◌/◌, ◌%◌, ◌<◌, ◌≤◌, ◌∙◌, Option, Some, None, Ok, Err, List, [], ◌∷◌, ◌++◌, map, take, length, refl, sym, ap, arith}
use Rattle.std.specs.FinMap.{get}
use Rattle.volume_image.specs.Image.{IsImage, IsImageOf}
use Rattle.archive_files.specs.declared.forms.GetForm.{GetForm}
use Rattle.os8_dir.specs.declared.entries.DirEntry.{DirEntry}
use Rattle.os8_dir.specs.declared.entries.DirEntry.TheVariants as entry
use Rattle.os8_dir.specs.Entries.{DirectoryState, IsTidy}
use Rattle.os8_dir.specs.Reading.{directory_of}
use Rattle.os8_dir.specs.Found.{IsDirectory, FilePlace, extent_of, files_at, find}
use Rattle.os8_dir.specs.Files.{FileData, files_of, data_if_there, run}
use Rattle.os8_files.specs.Failed.{extent_or}
use Rattle.os8_dir.specs.declared.file_faults.FileFault.TheVariants.{NotFound, NoRoom, DirectoryFull, Busy, BadName, TooLong, TentativeOpen, Device, Stopped, NothingWritten}
use Rattle.os8_dir.specs.declared.file_faults.FileFault.TheVariants as file-fault
use Rattle.refusals.specs.declared.faults.SessionFault.{SessionFault}
use Rattle.refusals.specs.declared.faults.SessionFault.TheVariants.{BadLine, NoJob, TooManyJobs, File, Asm, Tape, BadText, Reader, Writer, Memory, TooManyBreaks}
use Rattle.archive_files.specs.declared.faults.ArchiveFault.{ArchiveFault}
use Rattle.archive_files.specs.declared.faults.ArchiveFault.TheVariants.{Image, Directory, Refused}
use Rattle.archive_files.specs.Opening.{IsUnopened}
use Rattle.archive_files.specs.Parts.{GivesFile}
use Rattle.archive_many.specs.Opened.{GetsFile, LiesOn, file_at, files_on, files_or}
use Rattle.archive_many.specs.Raw.{BlocksRefused, GetsBlocks, HasBlocks}
use Rattle.archive_many.specs.Steps.{IsNoVolume, files_of_entries}
use Rattle.archive_many.specs.declared.opened.VolumeFile.{VolumeFile}
use Rattle.archive_many.specs.declared.faults.BlocksFault.TheVariants.{Archive}

-- the files of entries are those of their list
pub files-of-entries : (place : ℕ) (es : List DirEntry) → IsTidy es → files_of_entries place es ≡ map file_at (files_at place es)
files-of-entries place [] neat = refl
files-of-entries place (entry.File name words zero ∷ es) neat = absurd (omega (arith, neat.0))
files-of-entries place (entry.File name words (suc size) ∷ es) neat =
    ap (λ l. record { name = name; place = place; blocks = suc size } ∷ l) (files-of-entries (place + suc size) es neat.2)
files-of-entries place (entry.Empty size ∷ es) neat = files-of-entries (place + size) es neat.2

-- ## Where files lie

-- what the map of a sound volume's files has for a name
abbrev pub FoundSo : Type 0
FoundSo = (blocks : List (List ℕ)) (d : DirectoryState) (name : ℕ) → directory_of blocks ≡ Ok d → get (files_of blocks) name ≡ data_if_there blocks d.info (find name (files_at d.first d.entries))

extent-in : (blocks : List (List ℕ)) (d : DirectoryState) (name : ℕ) → directory_of blocks ≡ Ok d → extent_or name (directory_of blocks) ≡ extent_of (find name (files_at d.first d.entries))
extent-in blocks d name read = ap (extent_or name) read

first-or : Option (ℕ × ℕ) → ℕ
first-or None = 0
first-or (Some p) = p.0

second-or : Option (ℕ × ℕ) → ℕ
second-or None = 0
second-or (Some p) = p.1

some-pair : (a b x y : ℕ) → ◌≡◌ {A = Option (ℕ × ℕ)} (Some (a, b)) (Some (x, y)) → (a ≡ x) × (b ≡ y)
unfolding first-or second-or
some-pair a b x y is = (ap first-or is, ap second-or is)

lies-found : (blocks : List (List ℕ)) (info : ℕ) (file : VolumeFile) (place size : ℕ) (o : Option FilePlace) → Some (place, size) ≡ extent_of o → place ≡ file.place → size ≡ file.blocks
    → extent_or file.name (directory_of blocks) ≡ extent_of o → get (files_of blocks) file.name ≡ data_if_there blocks info o → (held : FileData) × LiesOn blocks file held
lies-found blocks info file place size None is here long extent there = absurd (cc)
lies-found blocks info file place size (Some f) is here long extent there =
    let both = some-pair place size f.place f.size is in
    let at : f.place ≡ file.place = sym both.0 ∙ here in
    let count : f.size ≡ file.blocks = sym both.1 ∙ long in (
      (take info f.info, run blocks f.place f.size),
      record {
        extent = extent ∙ sym is ∙ ap (λ p. Some (p, size)) here ∙ ap (λ n. Some (file.place, n)) long;
        there = there;
        words = ap (λ p. run blocks p f.size) at ∙ ap (λ n. run blocks file.place n) count;
      },
    )

-- a file that is found lies there
pub lies : FoundSo → (blocks : List (List ℕ)) (d : DirectoryState) (file : VolumeFile) (place size : ℕ) → directory_of blocks ≡ Ok d → Some (place, size) ≡ extent_of (find file.name (files_at d.first d.entries))
    → place ≡ file.place → size ≡ file.blocks → (held : FileData) × LiesOn blocks file held
lies found blocks d file place size read is here long =
    lies-found blocks d.info file place size (find file.name (files_at d.first d.entries)) is here long (extent-in blocks d file.name read) (found blocks d file.name read)

none-some : {X : Type 0} (o p : Option X) (x : X) → None ≡ o → p ≡ o → p ≡ Some x → ⊥
none-some o p x one two three = cc

-- one that isn't found, or is found elsewhere, does not
pub lies-nowhere : (blocks : List (List ℕ)) (d : DirectoryState) (file : VolumeFile) → directory_of blocks ≡ Ok d → None ≡ extent_of (find file.name (files_at d.first d.entries))
    → extent_or file.name (directory_of blocks) ≢ Some (file.place, file.blocks)
lies-nowhere blocks d file read is same = none-some _ _ _ is (extent-in blocks d file.name read) same

some-some : (o p : Option (ℕ × ℕ)) (a b x y : ℕ) → Some (a, b) ≡ o → p ≡ o → p ≡ Some (x, y) → (a ≡ x) × (b ≡ y)
some-some o p a b x y one two three = some-pair a b x y (one ∙ sym two ∙ three)

pub lies-elsewhere : (blocks : List (List ℕ)) (d : DirectoryState) (file : VolumeFile) (place size : ℕ) → directory_of blocks ≡ Ok d → Some (place, size) ≡ extent_of (find file.name (files_at d.first d.entries))
    → place ≢ file.place → extent_or file.name (directory_of blocks) ≢ Some (file.place, file.blocks)
lies-elsewhere blocks d file place size read is differ same = differ (some-some _ _ place size file.place file.blocks is (extent-in blocks d file.name read) same).0

pub lies-longer : (blocks : List (List ℕ)) (d : DirectoryState) (file : VolumeFile) (place size : ℕ) → directory_of blocks ≡ Ok d → Some (place, size) ≡ extent_of (find file.name (files_at d.first d.entries))
    → size ≢ file.blocks → extent_or file.name (directory_of blocks) ≢ Some (file.place, file.blocks)
lies-longer blocks d file place size read is differ same = differ (some-some _ _ place size file.place file.blocks is (extent-in blocks d file.name read) same).1

-- ## What is refused

-- what is not given of a file that lies there
pub file-refused : (blocks : List (List ℕ)) (file : VolumeFile) (held : FileData) (form : GetForm) (fault : SessionFault) → LiesOn blocks file held → GivesFile form held.1 (Err fault)
    → GetsFile blocks file form (Err fault)
file-refused blocks file held form (Tape fault) lies is = (held, lies, is.0, is.1)
file-refused blocks file held form (File NotFound) lies is = absurd (cc)
file-refused blocks file held form (File (NoRoom n)) lies is = (is, held, lies)
file-refused blocks file held form (File DirectoryFull) lies is = (is, held, lies)
file-refused blocks file held form (File (Busy name)) lies is = (is, held, lies)
file-refused blocks file held form (File BadName) lies is = (is, held, lies)
file-refused blocks file held form (File TooLong) lies is = (is, held, lies)
file-refused blocks file held form (File TentativeOpen) lies is = (is, held, lies)
file-refused blocks file held form (File Device) lies is = (is, held, lies)
file-refused blocks file held form (File Stopped) lies is = (is, held, lies)
file-refused blocks file held form (File file-fault.Memory) lies is = (is, held, lies)
file-refused blocks file held form (File NothingWritten) lies is = (is, held, lies)
file-refused blocks file held form BadLine lies is = (is, held, lies)
file-refused blocks file held form NoJob lies is = (is, held, lies)
file-refused blocks file held form TooManyJobs lies is = (is, held, lies)
file-refused blocks file held form (Asm asm) lies is = (is, held, lies)
file-refused blocks file held form BadText lies is = (is, held, lies)
file-refused blocks file held form Reader lies is = (is, held, lies)
file-refused blocks file held form Writer lies is = (is, held, lies)
file-refused blocks file held form Memory lies is = (is, held, lies)
file-refused blocks file held form TooManyBreaks lies is = (is, held, lies)

whole : (size count : ℕ) → size ≡ 512 * count → size % 512 ≡ 0
whole size count is = omega (arith, is)

counted : (size count : ℕ) → size ≡ 512 * count → size / 512 ≡ count
counted size count is = omega (arith, is)

-- the image of some blocks is an image
pub image-of : (bytes : List ℕ) (volume : List (List ℕ)) → IsImageOf bytes volume → IsImage bytes
image-of bytes volume is = record {
  size = record {
    whole = whole (length bytes) (length volume) is.size;
    least = let same = counted (length bytes) (length volume) is.size in omega (arith, same, is.volume.least);
    most = let same = counted (length bytes) (length volume) is.size in omega (arith, same, is.volume.most);
  };
  range = is.range;
}

-- what is not given of blocks that are there
pub blocks-refused : (image : List ℕ) (first count : ℕ) (form : GetForm) (words : List ℕ) (fault : SessionFault) → HasBlocks image first count words → GivesFile form words (Err fault)
    → BlocksRefused image first count form fault
blocks-refused image first count form words (Tape fault) has is = (words, has, is.0, is.1)
blocks-refused image first count form words (File fault) has is = (is, image-of image has.blocks has.is_image)
blocks-refused image first count form words BadLine has is = (is, image-of image has.blocks has.is_image)
blocks-refused image first count form words NoJob has is = (is, image-of image has.blocks has.is_image)
blocks-refused image first count form words TooManyJobs has is = (is, image-of image has.blocks has.is_image)
blocks-refused image first count form words (Asm asm) has is = (is, image-of image has.blocks has.is_image)
blocks-refused image first count form words BadText has is = (is, image-of image has.blocks has.is_image)
blocks-refused image first count form words Reader has is = (is, image-of image has.blocks has.is_image)
blocks-refused image first count form words Writer has is = (is, image-of image has.blocks has.is_image)
blocks-refused image first count form words Memory has is = (is, image-of image has.blocks has.is_image)
blocks-refused image first count form words TooManyBreaks has is = (is, image-of image has.blocks has.is_image)

-- bytes of which there is no volume give no blocks
pub no-volume : (image : List ℕ) (first count : ℕ) (form : GetForm) (fault : ArchiveFault) → IsNoVolume image fault → GetsBlocks image first count form (Err (Archive fault))
no-volume image first count form (Image fault) is = is
no-volume image first count form (Directory fault) is = is
no-volume image first count form (Refused (Tape fault)) is = absurd (cc (is.0))
no-volume image first count form (Refused (File fault)) is = is
no-volume image first count form (Refused BadLine) is = is
no-volume image first count form (Refused NoJob) is = is
no-volume image first count form (Refused TooManyJobs) is = is
no-volume image first count form (Refused (Asm asm)) is = is
no-volume image first count form (Refused BadText) is = is
no-volume image first count form (Refused Reader) is = is
no-volume image first count form (Refused Writer) is = is
no-volume image first count form (Refused Memory) is = is
no-volume image first count form (Refused TooManyBreaks) is = is

-- and none of their files is opened
pub unopened : (image : List ℕ) (fault : ArchiveFault) → IsNoVolume image fault → IsUnopened image fault
unopened image (Image fault) is = is
unopened image (Directory fault) is = absurd is
unopened image (Refused fault) is = is

-- ## The list of files

-- the files that are listed of a directory are those of its volume
pub list-files : (blocks : List (List ℕ)) (d : DirectoryState) (first : ℕ) (entries : List DirEntry) (old new : List VolumeFile) → directory_of blocks ≡ Ok d → first ≡ d.first → entries ≡ d.entries → IsTidy d.entries
    → old ≡ [] → new ≡ old ++ files_of_entries first entries → new ≡ files_on blocks
list-files blocks d first entries old new read is_first is_entries neat none is =
    is ∙ ap (λ l. l ++ files_of_entries first entries) none ∙ ap (λ n. files_of_entries n entries) is_first ∙ ap (files_of_entries d.first) is_entries ∙ files-of-entries d.first d.entries neat ∙ sym (ap files_or read)

-- what is known of directories and of where files lie
abbrev pub SoundSo : Type 0
SoundSo = (blocks : List (List ℕ)) (d : DirectoryState) → directory_of blocks ≡ Ok d → IsDirectory (length blocks) d

abbrev pub InsideSo : Type 0
InsideSo = (volume name : ℕ) (d : DirectoryState) (f : FilePlace) → IsDirectory volume d → find name (files_at d.first d.entries) ≡ Some f → (f.name ≡ name) × (d.first ≤ f.place) × (0 < f.size) × (f.place + f.size ≤ volume)

found-inside : InsideSo → (volume name : ℕ) (d : DirectoryState) (place size : ℕ) (o : Option FilePlace) → IsDirectory volume d → find name (files_at d.first d.entries) ≡ o → Some (place, size) ≡ extent_of o → place + size ≤ volume
found-inside inside volume name d place size None directory found is = absurd (cc)
found-inside inside volume name d place size (Some f) directory found is =
    let both = some-pair place size f.place f.size is in
    omega (arith, both.0, both.1, (inside volume name d f directory found).3)

-- a file that is found lies in the volume
pub lies-inside : SoundSo → InsideSo → (blocks : List (List ℕ)) (d : DirectoryState) (name place size : ℕ) → directory_of blocks ≡ Ok d → Some (place, size) ≡ extent_of (find name (files_at d.first d.entries)) → place + size ≤ length blocks
lies-inside sound inside blocks d name place size read is = found-inside inside (length blocks) name d place size (find name (files_at d.first d.entries)) (sound blocks d read) refl is

-- the words that were read are the file's
pub words-lie : (blocks : List (List ℕ)) (file : VolumeFile) (place size : ℕ) (held : FileData) (read words : List ℕ) → LiesOn blocks file held → place ≡ file.place → size ≡ file.blocks
    → read ≡ run blocks place size → words ≡ read → words ≡ held.1
words-lie blocks file place size held read words lies here long is same =
    same ∙ is ∙ ap (λ p. run blocks p size) here ∙ ap (λ n. run blocks file.place n) long ∙ sym lies.words
