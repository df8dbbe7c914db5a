-- What it means that files are copied to the volume in an image file.
use Rattle.std.specs.Prelude.{◌≡◌, ℕ, Bool, true, false, Option, None, Ok, List, [], ◌∷◌, ◌++◌, map}
use Rattle.std.specs.Global.{Vec}
use Rattle.hosts.specs.Event.{Event, look_call}
use Rattle.hosts.specs.Streams.{output, read}
use Rattle.archive_files.specs.Asking.{Target, target_of}
use Rattle.archive_many.specs.Choosing.{file_asked}
use Rattle.archive_many.specs.Copying.{CopiesAll}
use Rattle.archive_many.specs.Cutting.{CutsFiles}
use Rattle.archive_many.specs.Naming.{copy_name}
use Rattle.archive_many.specs.Opened.{OpensVolume, files_on}
use Rattle.archive_many.specs.Wishing.{first_unfound, found_files, wishes_of}
use Rattle.archive_many.specs.declared.opened.VolumeFile.{VolumeFile}
use Rattle.program_tasks.specs.declared.forms.CopyChoice.{CopyChoice}
use Rattle.program_tasks.specs.declared.forms.CopyChoice.TheVariants.{One, Like}
use Rattle.program_tasks.specs.declared.forms.CopyForm.{CopyForm}
use Rattle.program_tasks.specs.declared.forms.ImageForm.{ImageForm}
use Rattle.image_files.specs.Pairs.{is_one_image}
use Rattle.image_files.specs.Reading.{LooksAt}
use Rattle.image_files.specs.declared.images.Image.{Image}
use Rattle.change_commands.specs.Copying.{may_replace, new_name, stored_lines}
use Rattle.keeper_laws.specs.Changed.{GetsVolume, IsOpened}

-- ## Where from

-- the volume in another image file is found in what these calls read
pub record IsFoundBy (form : ImageForm) (calls : List Event) (from : List ℕ) : Type 0 where
  pub before : List Event
  pub after : List Event
  pub found : Vec ℕ
  pub looks : LooksAt form before (Ok found) after
  pub reads : read after ≡ calls ++ read before
  pub is : from ≡ found.items

-- the volume from which files are copied: the one that gets them, or that in another image file
abbrev pub IsSource : Bool → ImageForm → Image → List Event → List ℕ → Type 0
IsSource true form image calls from = (calls ≡ []) × (from ≡ image.bytes.items)
IsSource false form image calls from = IsFoundBy form calls from

-- ## Which files

-- the one file of a volume that is asked for
pub record IsOne (wanted : Target) (from : List ℕ) (files : List VolumeFile) : Type 0 where
  pub blocks : List (List ℕ)
  pub opens : OpensVolume from (Ok blocks)
  pub file : VolumeFile
  pub found : file_asked wanted (files_on blocks) ≡ Ok file
  pub are : files ≡ file ∷ []

-- those that words choose, each once; each word chooses one at least
pub record AreLike (words : List (List ℕ)) (from : List ℕ) (files : List VolumeFile) : Type 0 where
  pub blocks : List (List ℕ)
  pub opens : OpensVolume from (Ok blocks)
  pub all : first_unfound (wishes_of (files_on blocks) false words []) ≡ None
  pub are : files ≡ found_files (wishes_of (files_on blocks) false words [])

abbrev pub AreChosen : CopyChoice → List ℕ → List VolumeFile → Type 0
AreChosen (One asked name) from files = IsOne (target_of asked) from files
AreChosen (Like words is_forced) from files = AreLike (map (λ word. word.bytes.items) words.items) from files

-- the name of the copy, where one file is copied
abbrev pub copied_name : Option (List ℕ) → List VolumeFile → ℕ
copied_name other [] = 0
copied_name other (file ∷ files) = copy_name other file.name

-- ## The copies

-- Files are copied, all of them. The image file that gets them was read, then the other one, if it is another, and nothing else. It has its volume
-- now with the copies, and with each other file as it was. Their lines were to be printed, and nothing else. Whether they were is `ok`.
pub record HasCopied (form : CopyForm) (ok : Bool) (old new : List Event) : Type 0 where
  pub image : Image
  pub path : List ℕ
  pub was : List ℕ
  pub opened : IsOpened form.to path was image old
  pub calls : List Event
  pub from : List ℕ
  pub source : IsSource (is_one_image form.image form.to) form.image image calls from
  pub reads : read new ≡ calls ++ (look_call path was ∷ read old)
  pub files : List VolumeFile
  pub chosen : AreChosen form.files from files
  pub made : Vec ℕ
  pub copies : CopiesAll from image.bytes.items (new_name form.files) files (may_replace form.files) (Ok made)
  pub cuts : Vec Bool
  pub cut : CutsFiles from image.bytes.items files (Ok cuts)
  pub has : GetsVolume form.to image path was made.items old new
  pub prints : output new ≡ (ok, stored_lines (new_name form.files) files cuts.items) ∷ output old
