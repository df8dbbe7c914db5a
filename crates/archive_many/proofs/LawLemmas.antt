-- Files that were put at once are got again.
use Rattle.std.proofs.Common.{◌≡◌, ◌∙◌, ℕ, true, Option, Some, None, Result, Ok, Err, List, [], ◌∷◌, ◌++◌, take, refl, sym, ap, subst}
use Rattle.std.specs.Prelude.{is_ok}
use Rattle.std.specs.Global.{Vec}
use Rattle.std.specs.FinMap.{get}
use Rattle.volume_image.specs.Image.{WrittenIsReadBack}
use Rattle.archive_files.specs.declared.forms.GetForm.{GetForm}
use Rattle.archive_files.specs.declared.forms.GetForm.TheVariants as get_as
use Rattle.archive_files.specs.declared.forms.PutForm.{PutForm}
use Rattle.archive_files.specs.declared.forms.PutForm.TheVariants as put_as
use Rattle.char_pack.specs.Packing.{frames, packed_blocks}
use Rattle.os8_dir.specs.Entries.{DirectoryState}
use Rattle.os8_dir.specs.Reading.{Sound, directory_of}
use Rattle.os8_dir.specs.Found.{FilePlace, extent_of, files_at, find}
use Rattle.os8_dir.specs.Files.{FileData, Files, files_of, data_if_there, run}
use Rattle.os8_dir.specs.declared.faults.DirFault.{DirFault}
use Rattle.os8_files.specs.Mounted.{MountState}
use Rattle.os8_files.specs.Failed.{extent_or}
use Rattle.os8_files.specs.Puts.{blocks_filled, file_with}
use Rattle.archive_files.specs.Opening.{IsOpened}
use Rattle.archive_files.specs.Getting.{IsGiven}
use Rattle.archive_files.specs.Putting.{information_for, put_words}
use Rattle.archive_files.proofs.LawLemmas.{get-here, get-there, some_eq, one_volume}
use Rattle.archive_many.specs.Opened.{GetsFile, LiesOn}
use Rattle.archive_many.specs.Putting.{ArePut, HasPutAll, info_or, words_in}
use Rattle.archive_many.specs.Laws.{HoldsFile, IsNoneOf}
use Rattle.archive_many.proofs.FileLemmas.{FoundSo}
use Rattle.archive_many.specs.declared.opened.VolumeFile.{VolumeFile}
use Rattle.archive_many.specs.declared.putting.NewFile.{NewFile}
use Rattle.archive_many.specs.declared.putting.ManyImage.{ManyImage}

-- ## Maps

-- ## One file after the other

data-of : MountState → Option (List ℕ) → NewFile → FileData
data-of m info f = file_with m (information_for m f.name (info_or f.date info)) (words_in f)

sound-volume : (name : ℕ) (read : Result DirectoryState DirFault) (extent : ℕ × ℕ) → extent_or name read ≡ Some extent → is_ok read ≡ true
sound-volume name (Ok d) extent found = refl
sound-volume name (Err fault) extent found = cc

-- the volume stays sound
sound-again : (old new : MountState) (info : Option (List ℕ)) (files : List NewFile) → ArePut old info files new → Sound old.blocks → Sound new.blocks
sound-again old new info [] put sound = subst (λ (m : MountState). Sound m.blocks) (sym put) sound
sound-again old new info (f ∷ files) put sound =
    sound-again put.0 new info files put.2 (sound-volume f.name (directory_of put.0.blocks) (put.1.put.place, blocks_filled (words_in f)) put.1.put.extent)

-- a file of none of the names stays
stays : (old new : MountState) (info : Option (List ℕ)) (files : List NewFile) (name : ℕ) → ArePut old info files new → IsNoneOf name files → get (files_of new.blocks) name ≡ get (files_of old.blocks) name
stays old new info [] name put none = ap (λ (m : MountState). get (files_of m.blocks) name) put
stays old new info (f ∷ files) name put none =
    stays put.0 new info files name put.2 none.1 ∙ ap (λ (m : Files). get m name) put.1.put.files
    ∙ get-there (files_of old.blocks) f.name (file_with old (information_for old f.name (info_or f.date info)) (words_in f)) name none.0

-- a file that was put is there, where no later one has its name
there : (old new : MountState) (info : Option (List ℕ)) (before following : List NewFile) (f : NewFile) → ArePut old info (before ++ f ∷ following) new → IsNoneOf f.name following
    → (words : List ℕ) × (get (files_of new.blocks) f.name ≡ Some (words, words_in f))
there old new info [] following f put none = (
  (file_with old (information_for old f.name (info_or f.date info)) (words_in f)).0,
  stays put.0 new info following f.name put.2 none ∙ ap (λ (m : Files). get m f.name) put.1.put.files
      ∙ get-here (files_of old.blocks) f.name (file_with old (information_for old f.name (info_or f.date info)) (words_in f)),
)
there old new info (g ∷ before) following f put none = there put.0 new info before following f put.2 none

-- ## Images

new-image : (image : List ℕ) (files : List NewFile) (info : Option (List ℕ)) (new : ManyImage) → (put : HasPutAll image files info new) → IsOpened new.bytes.items put.after.blocks
new-image image files info new put = record {
  is_image = put.is_image;
  sound = sound-again put.before put.after info files put.put put.mounted.opened.sound;
}

pub put-there : (image : List ℕ) (before following : List NewFile) (f : NewFile) (info : Option (List ℕ)) (new : ManyImage) → HasPutAll image (before ++ f ∷ following) info new → IsNoneOf f.name following
    → (words : List ℕ) × HoldsFile new.bytes.items f.name (words, words_in f)
put-there image before following f info new put none =
    let is = there put.before put.after info before following f put.put none in (
      is.0,
      record {
        blocks = put.after.blocks;
        opened = new-image image (before ++ f ∷ following) info new put;
        there = is.1;
      },
    )

pub others-stay : WrittenIsReadBack → (image : List ℕ) (files : List NewFile) (info : Option (List ℕ)) (new : ManyImage) (name : ℕ) (held : FileData) → HasPutAll image files info new → IsNoneOf name files
    → HoldsFile image name held → HoldsFile new.bytes.items name held
others-stay law image files info new name held put none was = record {
  blocks = put.after.blocks;
  opened = new-image image files info new put;
  there = stays put.before put.after info files name put.put none
      ∙ ap (λ (blocks : List (List ℕ)). get (files_of blocks) name) (sym (one_volume law image put.before.blocks was.blocks put.mounted.opened.is_image was.opened.is_image)) ∙ was.there;
}

second : {X Y : Type 0} (a : X × Y) (b : X × Y) → Some a ≡ Some b → a.1 ≡ b.1
second a b is = ap (λ (p : _). p.1) (some_eq a b is)

pub put-got : WrittenIsReadBack → (image : List ℕ) (before following : List NewFile) (f : NewFile) (info : Option (List ℕ)) (new : ManyImage) (blocks : List (List ℕ)) (found : VolumeFile) (form : GetForm) (bytes : Vec ℕ)
    → HasPutAll image (before ++ f ∷ following) info new → IsNoneOf f.name following → IsOpened new.bytes.items blocks → found.name ≡ f.name → GetsFile blocks found form (Ok bytes) → IsGiven form (words_in f) bytes.items
put-got law image before following f info new blocks found form bytes put none opened named gets =
    let is = there put.before put.after info before following f put.put none in
    let same = one_volume law new.bytes.items put.after.blocks blocks put.is_image opened.is_image in
    subst (λ (l : List ℕ). IsGiven form l bytes.items)
    (second gets.0 (is.0, words_in f)
    (sym gets.1.there ∙ ap (λ (b : List (List ℕ)). get (files_of b) found.name) same ∙ ap (λ n. get (files_of put.after.blocks) n) named ∙ is.1))
    gets.2

frames-words : (form : PutForm) (bytes : List ℕ) → form ≡ put_as.Frames → put_words form bytes ≡ packed_blocks bytes
frames-words form bytes is = ap (λ f. put_words f bytes) is

-- the frames of the words of frames
pub frames-got : (f : NewFile) (bytes : Vec ℕ) → f.form ≡ put_as.Frames → IsGiven get_as.Frames (words_in f) bytes.items → bytes.items ≡ frames (packed_blocks f.bytes.items)
frames-got f bytes form is = is ∙ ap frames (frames-words f.form f.bytes.items form)

-- ## Where other files lie

-- a file of none of the names lies where it lay
extent-stays : (old new : MountState) (info : Option (List ℕ)) (files : List NewFile) (name : ℕ) → ArePut old info files new → IsNoneOf name files
    → extent_or name (directory_of new.blocks) ≡ extent_or name (directory_of old.blocks)
extent-stays old new info [] name put none = ap (λ (m : MountState). extent_or name (directory_of m.blocks)) put
extent-stays old new info (f ∷ files) name put none =
    extent-stays put.0 new info files name put.2 none.1 ∙ put.1.put.places name none.0 (ap (λ (m : MountState). m.stopped) put.1.put.others ∙ put.1.put.ready.running)

held-words : (blocks : List (List ℕ)) (info place size : ℕ) (o : Option FilePlace) (held : FileData) → extent_of o ≡ Some (place, size) → data_if_there blocks info o ≡ Some held → held.1 ≡ run blocks place size
held-words blocks info place size None held extent is = absurd (cc)
held-words blocks info place size (Some f) held extent is =
    sym (second (take info f.info, run blocks f.place f.size) held is) ∙ ap (λ (p : ℕ × ℕ). run blocks p.0 p.1) (some_eq (f.place, f.size) (place, size) extent)

-- the words of a file are those of its blocks
words-run : FoundSo → (blocks : List (List ℕ)) (read : Result DirectoryState DirFault) (name place size : ℕ) (held : FileData) → directory_of blocks ≡ read → extent_or name read ≡ Some (place, size)
    → get (files_of blocks) name ≡ Some held → held.1 ≡ run blocks place size
words-run found blocks (Ok d) name place size held read extent there =
    held-words blocks d.info place size (find name (files_at d.first d.entries)) held extent (sym (found blocks d name read) ∙ there)
words-run found blocks (Err fault) name place size held read extent there = absurd (cc)

pub others-lie : FoundSo → WrittenIsReadBack → (image : List ℕ) (files : List NewFile) (info : Option (List ℕ)) (new : ManyImage) (old blocks : List (List ℕ)) (file : VolumeFile) (held : FileData)
    → HasPutAll image files info new → IsNoneOf file.name files → IsOpened image old → IsOpened new.bytes.items blocks → LiesOn old file held → LiesOn blocks file held
others-lie found law image files info new old blocks file held put none was opened lies =
    let before = one_volume law image put.before.blocks old put.mounted.opened.is_image was.is_image in
    let after = one_volume law new.bytes.items put.after.blocks blocks put.is_image opened.is_image in
    let extent = ap (λ (b : List (List ℕ)). extent_or file.name (directory_of b)) after ∙ extent-stays put.before put.after info files file.name put.put none
    ∙ ap (λ (b : List (List ℕ)). extent_or file.name (directory_of b)) (sym before) ∙ lies.extent in
    let there = ap (λ (b : List (List ℕ)). get (files_of b) file.name) after ∙ stays put.before put.after info files file.name put.put none
    ∙ ap (λ (b : List (List ℕ)). get (files_of b) file.name) (sym before) ∙ lies.there in
    record {
      extent = extent;
      there = there;
      words = words-run found blocks (directory_of blocks) file.name file.place file.blocks held refl extent there;
    }
