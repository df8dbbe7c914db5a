-- What holds of the files of an image that was changed.
use Rattle.std.specs.Prelude.{◌≡◌, ◌≢◌, ◌⊎◌, ℕ, Option, None, Some, Result, Ok, List, [], ◌∷◌, replicate}
use Rattle.std.specs.Global.{Vec}
use Rattle.std.specs.FinMap.{get}
use Rattle.volume_image.specs.Image.{IsImageOf}
use Rattle.archive_files.specs.declared.forms.GetForm.{GetForm}
use Rattle.name_spelling.specs.Reading.{typed_name}
use Rattle.os8_dir.specs.Reading.{directory_of}
use Rattle.os8_dir.specs.Files.{FileData, files_of}
use Rattle.os8_dir.specs.Names.{with_end_zeros}
use Rattle.os8_files.specs.Calls.{KeepsBlocks, info_of}
use Rattle.archive_files.specs.declared.forms.PutForm.{PutForm}
use Rattle.archive_files.specs.declared.putting.NewImage.{NewImage}
use Rattle.archive_files.specs.Putting.{PutsFile, put_words}
use Rattle.archive_files.specs.Copying.{CopiesFile, target}
use Rattle.archive_files.specs.declared.faults.ArchiveFault.{ArchiveFault}
use Rattle.archive_files.specs.declared.deleting.DeletedImage.{DeletedImage}
use Rattle.archive_files.specs.declared.renaming.RenamedImage.{RenamedImage}
use Rattle.archive_files.specs.declared.squeezing.SqueezedImage.{SqueezedImage}
use Rattle.archive_files.specs.Opening.{IsOpened}
use Rattle.archive_files.specs.Asking.{Target, OfName, AtBlock, asked_name}
use Rattle.archive_files.specs.Getting.{Gets, HasFile, IsNoFile}
use Rattle.archive_files.specs.Deleting.{DeletesFiles}
use Rattle.archive_files.specs.Squeezing.{SqueezesFiles}
use Rattle.archive_files.specs.Renaming.{RenamesFile}
use Rattle.archive_files.specs.Laws.{GivesOrLacks}

-- what is asked for is one of the files that are wanted of a volume, or none of them
abbrev pub IsOneOf : List (List ℕ) → Target → List Target → Type 0
IsOneOf blocks one [] = ⊥
IsOneOf blocks one (wanted ∷ others) = (asked_name blocks wanted ≡ asked_name blocks one) ⊎ IsOneOf blocks one others

abbrev pub IsNoneOf : List (List ℕ) → Target → List Target → Type 0
IsNoneOf blocks one [] = Unit {0}
IsNoneOf blocks one (wanted ∷ others) = (asked_name blocks wanted ≢ asked_name blocks one) × IsNoneOf blocks one others

-- the volume has a file of a name, which may be one that no text spells
pub record HasFileNamed (image : List ℕ) (name : ℕ) (file : FileData) : Type 0 where
  pub blocks : List (List ℕ)
  pub opened : IsOpened image blocks
  pub there : get (files_of blocks) name ≡ Some file

-- ## Deleted files

-- what was deleted is not there however it is asked for: the volume has no file of its name, and none begins at its first block
abbrev pub DeletedAreGone : Type 0
DeletedAreGone = (image : List ℕ) (one : Target) (wanted : List Target) (new : DeletedImage) (blocks : List (List ℕ)) → DeletesFiles image wanted (Ok new) → IsImageOf image blocks
    → IsOneOf blocks one wanted → IsNoFile new.bytes.items one

-- any other file is there as it was
abbrev pub DeletedLeaveOthers : Type 0
DeletedLeaveOthers = (image : List ℕ) (one : Target) (wanted : List Target) (file : FileData) (new : DeletedImage) (blocks : List (List ℕ)) → DeletesFiles image wanted (Ok new)
    → IsImageOf image blocks → IsNoneOf blocks one wanted → HasFile image one file → HasFile new.bytes.items one file

-- and is got in each form with the same bytes, or memory is wanted
abbrev pub DeletedLeaveWhatIsGot : Type 0
DeletedLeaveWhatIsGot = (image : List ℕ) (one : Target) (wanted : List Target) (form : GetForm) (new : DeletedImage) (before : Vec ℕ) (answer : Result (Vec ℕ) ArchiveFault) (blocks : List (List ℕ))
    → DeletesFiles image wanted (Ok new) → IsImageOf image blocks → IsNoneOf blocks one wanted → Gets image one form (Ok before)
    → Gets new.bytes.items one form answer → GivesOrLacks before.items answer

-- ## Squeezed volumes

-- each file is there as it was, also one that no text spells
abbrev pub SqueezedKeepNames : Type 0
SqueezedKeepNames = (image : List ℕ) (name : ℕ) (file : FileData) (new : SqueezedImage) → SqueezesFiles image (Ok new) → HasFileNamed image name file → HasFileNamed new.bytes.items name file

-- so is each that a text spells
abbrev pub SqueezedAreThere : Type 0
SqueezedAreThere = (image name : List ℕ) (file : FileData) (new : SqueezedImage) → SqueezesFiles image (Ok new) → HasFile image (OfName name) file → HasFile new.bytes.items (OfName name) file

-- and is got in each form with the same bytes, or memory is wanted
abbrev pub SqueezedAreGot : Type 0
SqueezedAreGot = (image name : List ℕ) (form : GetForm) (new : SqueezedImage) (before : Vec ℕ) (answer : Result (Vec ℕ) ArchiveFault)
    → SqueezesFiles image (Ok new) → Gets image (OfName name) form (Ok before) → Gets new.bytes.items (OfName name) form answer → GivesOrLacks before.items answer

-- ## Renamed files

-- the file is there under the new name as it was under the old one
abbrev pub RenamedIsThere : Type 0
RenamedIsThere = (image other : List ℕ) (wanted : Target) (file : FileData) (new : RenamedImage) → RenamesFile image wanted other (Ok new) → HasFile image wanted file
    → HasFile new.bytes.items (OfName other) file

-- and begins at the block at which it began
abbrev pub RenamedBeginsThere : Type 0
RenamedBeginsThere = (image other : List ℕ) (place : ℕ) (file : FileData) (new : RenamedImage) → RenamesFile image (AtBlock place) other (Ok new) → HasFile image (AtBlock place) file
    → HasFile new.bytes.items (AtBlock place) file

-- none of the old name is there
abbrev pub OldNameIsGone : Type 0
OldNameIsGone = (image text other : List ℕ) (wanted : Target) (new : RenamedImage) → RenamesFile image wanted other (Ok new) → typed_name text ≡ Some new.old_name
    → IsNoFile new.bytes.items (OfName text)

-- any other file is there as it was
abbrev pub RenamedLeavesOthers : Type 0
RenamedLeavesOthers = (image other : List ℕ) (one wanted : Target) (file : FileData) (new : RenamedImage) (blocks : List (List ℕ)) → RenamesFile image wanted other (Ok new) → IsImageOf image blocks
    → asked_name blocks one ≢ Some new.old_name → asked_name blocks one ≢ Some new.new_name → HasFile image one file → HasFile new.bytes.items one file

-- With its old name again the directory has the same list, and the files are the same. Block 0 and all blocks from 7 on have the
-- words that they had.
pub record IsAsBefore (blocks again : List (List ℕ)) : Type 0 where
  pub directory : directory_of again ≡ directory_of blocks
  pub files : files_of again ≡ files_of blocks
  pub blocks_are : KeepsBlocks blocks again 0 0

abbrev pub RenamedBackIsAsBefore : Type 0
RenamedBackIsAsBefore = (image name other : List ℕ) (wanted later : Target) (new back : RenamedImage) (blocks again : List (List ℕ)) → RenamesFile image wanted other (Ok new)
    → RenamesFile new.bytes.items later name (Ok back) → back.old_name ≡ new.new_name → back.new_name ≡ new.old_name
    → IsImageOf image blocks → IsImageOf back.bytes.items again → IsAsBefore blocks again

-- ## Information words

-- a file that is put over another keeps the information words of that
abbrev pub PutKeepsInformation : Type 0
PutKeepsInformation = (image name bytes : List ℕ) (form : PutForm) (file : FileData) (new : NewImage) → PutsFile image name form bytes None (Ok new)
    → HasFile image (OfName name) file → HasFile new.bytes.items (OfName name) (file.0, put_words form bytes)

-- one that is put anew has information words of 0, as many as the volume's files have
abbrev pub PutAnewHasZeros : Type 0
PutAnewHasZeros = (image name bytes : List ℕ) (form : PutForm) (new : NewImage) (blocks : List (List ℕ)) → PutsFile image name form bytes None (Ok new)
    → IsNoFile image (OfName name) → IsImageOf image blocks → HasFile new.bytes.items (OfName name) (replicate (info_of blocks) 0, put_words form bytes)

-- the first of the words that are given are its information words, and missing ones are 0
abbrev pub PutGivesInformation : Type 0
PutGivesInformation = (image name bytes given : List ℕ) (form : PutForm) (new : NewImage) (blocks : List (List ℕ)) → PutsFile image name form bytes (Some given) (Ok new)
    → IsImageOf image blocks → HasFile new.bytes.items (OfName name) (with_end_zeros (info_of blocks) given, put_words form bytes)

-- ## Copies

-- a copy has the same words, and the first of the information words, as many as its volume's files have, with zeros for missing ones
abbrev pub CopyIsTheSame : Type 0
CopyIsTheSame = (from to : List ℕ) (wanted : Target) (other : Option (List ℕ)) (file : FileData) (new : NewImage) (blocks : List (List ℕ)) → CopiesFile from wanted to other (Ok new)
    → HasFile from wanted file → IsImageOf to blocks → HasFileNamed new.bytes.items new.name (with_end_zeros (info_of blocks) file.0, file.1)

-- it has the name that was typed for it, or else that of the file
abbrev pub CopyHasItsName : Type 0
CopyHasItsName = (from to : List ℕ) (wanted : Target) (other : Option (List ℕ)) (new : NewImage) (blocks : List (List ℕ)) (name : ℕ) → CopiesFile from wanted to other (Ok new)
    → IsImageOf from blocks → asked_name blocks wanted ≡ Some name → target name other ≡ Some new.name

-- any other file of the image that it is put into is there as it was
abbrev pub CopyLeavesOthers : Type 0
CopyLeavesOthers = (from to : List ℕ) (one wanted : Target) (other : Option (List ℕ)) (file : FileData) (new : NewImage) (blocks : List (List ℕ)) → CopiesFile from wanted to other (Ok new)
    → IsImageOf to blocks → asked_name blocks one ≢ Some new.name → HasFile to one file → HasFile new.bytes.items one file
