-- What holds of files that were put into an image at once, of those that words choose, and of the files of a volume.
use Rattle.std.specs.Prelude.{◌≡◌, ◌≢◌, ℕ, ◌<◌, false, if◌then◌else◌, Option, Some, None, Ok, List, [], ◌∷◌, ◌++◌, All, map}
use Rattle.std.specs.Global.{Vec}
use Rattle.std.specs.FinMap.{get}
use Rattle.volume_image.specs.Image.{IsImageOf}
use Rattle.archive_files.specs.declared.forms.GetForm.{GetForm}
use Rattle.archive_files.specs.declared.forms.GetForm.TheVariants as get_as
use Rattle.archive_files.specs.declared.forms.PutForm.TheVariants as put_as
use Rattle.os8_dir.specs.Names.{with_end_zeros}
use Rattle.os8_dir.specs.Files.{FileData, files_of}
use Rattle.name_spelling.specs.Patterns.{is_like_one}
use Rattle.os8_files.specs.Calls.{info_of}
use Rattle.archive_files.specs.Opening.{IsOpened}
use Rattle.archive_files.specs.Deleting.{DeletesFiles}
use Rattle.archive_files.specs.declared.deleting.DeletedImage.{DeletedImage}
use Rattle.archive_files.specs.Getting.{IsGiven}
use Rattle.archive_files.specs.Laws.{whole_blocks}
use Rattle.archive_many.specs.Copying.{AreCopied}
use Rattle.archive_many.specs.Opened.{GetsFile, LiesOn, OpensVolume, files_on}
use Rattle.archive_many.specs.Putting.{PutsAll, words_in}
use Rattle.archive_many.specs.Wishing.{by_place, first_unfound, found_files, wishes_of}
use Rattle.archive_many.specs.HostNames.{NamesHost, NamesVolume}
use Rattle.archive_many.specs.declared.opened.VolumeFile.{VolumeFile}
use Rattle.archive_many.specs.declared.putting.NewFile.{NewFile}
use Rattle.archive_many.specs.declared.putting.ManyImage.{ManyImage}

-- ## Files that were put

-- the volume of an image has a file of a name, which is this
pub record HoldsFile (image : List ℕ) (name : ℕ) (held : FileData) : Type 0 where
  pub blocks : List (List ℕ)
  pub opened : IsOpened image blocks
  pub there : get (files_of blocks) name ≡ Some held

-- none of some new files has the name
abbrev pub IsNoneOf : ℕ → List NewFile → Type 0
IsNoneOf name [] = Unit {0}
IsNoneOf name (file ∷ files) = (file.name ≢ name) × IsNoneOf name files

-- a file whose name no later one has is there with its words
abbrev pub PutAreThere : Type 0
PutAreThere = (image : List ℕ) (before following : List NewFile) (file : NewFile) (info : Option (List ℕ)) (new : ManyImage) → PutsAll image (before ++ file ∷ following) info (Ok new)
    → IsNoneOf file.name following → (words : List ℕ) × HoldsFile new.bytes.items file.name (words, words_in file)

-- and what is got of it from the new image is given of these words
abbrev pub PutAreGot : Type 0
PutAreGot = (image : List ℕ) (before following : List NewFile) (file : NewFile) (info : Option (List ℕ)) (new : ManyImage) (blocks : List (List ℕ)) (found : VolumeFile) (form : GetForm) (bytes : Vec ℕ)
    → PutsAll image (before ++ file ∷ following) info (Ok new) → IsNoneOf file.name following → OpensVolume new.bytes.items (Ok blocks) → found.name ≡ file.name
    → GetsFile blocks found form (Ok bytes) → IsGiven form (words_in file) bytes.items

-- so frames that were put are got again, with zeros after them to the end of their last block
abbrev pub PutFramesAreGot : Type 0
PutFramesAreGot = (image : List ℕ) (before following : List NewFile) (file : NewFile) (info : Option (List ℕ)) (new : ManyImage) (blocks : List (List ℕ)) (found : VolumeFile) (bytes : Vec ℕ)
    → PutsAll image (before ++ file ∷ following) info (Ok new) → IsNoneOf file.name following → OpensVolume new.bytes.items (Ok blocks) → found.name ≡ file.name
    → file.form ≡ put_as.Frames → All (λ byte. byte < 256) file.bytes.items → GetsFile blocks found get_as.Frames (Ok bytes) → bytes.items ≡ whole_blocks file.bytes.items

-- any other file is there as it was
abbrev pub OthersStay : Type 0
OthersStay = (image : List ℕ) (files : List NewFile) (info : Option (List ℕ)) (new : ManyImage) (name : ℕ) (held : FileData) → PutsAll image files info (Ok new) → IsNoneOf name files
    → HoldsFile image name held → HoldsFile new.bytes.items name held

-- and lies where it lay
abbrev pub OthersLie : Type 0
OthersLie = (image : List ℕ) (files : List NewFile) (info : Option (List ℕ)) (new : ManyImage) (old blocks : List (List ℕ)) (file : VolumeFile) (held : FileData) → PutsAll image files info (Ok new)
    → IsNoneOf file.name files → OpensVolume image (Ok old) → OpensVolume new.bytes.items (Ok blocks) → LiesOn old file held → LiesOn blocks file held

-- ## Files that are taken out

-- After the files that words choose are taken out, where each word chooses one, the volume has just those whose names are like no word. Each of
-- these has its words and its information words.
abbrev pub LikeAreGone : Type 0
LikeAreGone = (image : List ℕ) (old : List (List ℕ)) (words : List (List ℕ)) (new : DeletedImage) → IsOpened image old → first_unfound (wishes_of (files_on old) false words []) ≡ None
    → DeletesFiles image (map by_place (found_files (wishes_of (files_on old) false words []))) (Ok new)
    → (blocks : List (List ℕ)) × IsImageOf new.bytes.items blocks × ((name : ℕ) → get (files_of blocks) name ≡ (if is_like_one words name then None else get (files_of old) name))

-- ## Files that are copied

-- a file on a volume with so many information words for each
abbrev pub copy_with : ℕ → FileData → FileData
copy_with info held = (with_end_zeros info (with_end_zeros 10 held.0), held.1)

-- the copy of a file that is there, else the older file
abbrev pub copy_or : ℕ → Option FileData → Option FileData → Option FileData
copy_or info None older = older
copy_or info (Some held) older = Some (copy_with info held)

-- After the files that words choose are copied, where each word chooses one, the volume has copies of just those whose names are like a word. A copy
-- has the words of its file, and its information words as far as there is room. Where no copy has the name of an older file, that stays.
abbrev pub LikeAreCopied : Type 0
LikeAreCopied = (from to : List ℕ) (source old words : List (List ℕ)) (new : List ℕ) → IsOpened from source → IsOpened to old → first_unfound (wishes_of (files_on source) false words []) ≡ None
    → AreCopied from to None (found_files (wishes_of (files_on source) false words [])) new → (blocks : List (List ℕ)) × IsImageOf new blocks
    × ((name : ℕ) → get (files_of blocks) name ≡ (if is_like_one words name then copy_or (info_of old) (get (files_of source) name) (get (files_of old) name) else get (files_of old) name))

-- ## Files of a volume

-- each file that is listed of a volume lies on it where the list says
abbrev pub EachLies : Type 0
EachLies = (blocks : List (List ℕ)) (before following : List VolumeFile) (file : VolumeFile) → files_on blocks ≡ before ++ file ∷ following → (held : FileData) × LiesOn blocks file held

-- a name is one of four words of twelve bits
abbrev pub IsOfWords : ℕ → Type 0
IsOfWords name = name < 0o10000000000000000

-- the name of the host's file for a file of a volume, in any folder, is taken for the name of the file
abbrev pub HostNamesComeBack : Type 0
HostNamesComeBack = (blocks : List (List ℕ)) (before following : List VolumeFile) (file : VolumeFile) (folder text : List ℕ) (name : Option ℕ) → IsOfWords file.name
    → files_on blocks ≡ before ++ file ∷ following → NamesHost file text → NamesVolume (folder ++ 0o57 ∷ text) name → name ≡ Some file.name

-- of two files of a volume the host's files have two names
abbrev pub NamesDiffer : Type 0
NamesDiffer = (blocks : List (List ℕ)) (before between following : List VolumeFile) (one two : VolumeFile) (text other : List ℕ) → IsOfWords one.name → IsOfWords two.name
    → files_on blocks ≡ before ++ one ∷ (between ++ two ∷ following) → NamesHost one text → NamesHost two other → text ≢ other
