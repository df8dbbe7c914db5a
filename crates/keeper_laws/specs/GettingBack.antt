-- What is got of an image file in which a file was put.
use Rattle.std.specs.Prelude.{◌≡◌, ◌⊎◌, ◌<◌, ℕ, true, Some, Result, Ok, Err, List, [], ◌∷◌, ◌++◌, All, length}
use Rattle.std.specs.Global.{Vec}
use Rattle.hosts.specs.Event.{Event, print_call}
use Rattle.archive_files.specs.declared.forms.GetForm.{GetForm}
use Rattle.archive_files.specs.declared.forms.GetForm.TheVariants as get_as
use Rattle.archive_files.specs.declared.forms.PutForm.TheVariants as put_as
use Rattle.name_spelling.specs.Reading.{typed_name}
use Rattle.archive_files.specs.Asking.{OfName}
use Rattle.archive_files.specs.Getting.{Gets, IsTapeOf, line_feeds}
use Rattle.archive_files.specs.Laws.{whole_blocks}
use Rattle.archive_files.specs.declared.faults.ArchiveFault.{ArchiveFault}
use Rattle.archive_many.specs.Laws.{IsNoneOf}
use Rattle.archive_many.specs.declared.putting.NewFile.{NewFile}
use Rattle.outcome.specs.declared.contents.Content.TheVariants as content
use Rattle.outcome.specs.declared.endings.Ending.{Ending}
use Rattle.program_tasks.specs.declared.forms.ImageForm.{ImageForm}
use Rattle.image_files.specs.Again.{AreAlike, EndsForMemory, LooksIn}
use Rattle.image_files.specs.Answers.{Answers}
use Rattle.image_files.specs.Laws.{ChangesNothing}
use Rattle.image_files.specs.Reading.{Looks}
use Rattle.image_files.specs.Saving.{HasSaved, Prints}
use Rattle.image_files.specs.Work.{Then}
use Rattle.image_files.specs.declared.images.Image.{Image}

-- what a command that only prints does with an image file of these bytes, once it has read the file
abbrev pub ShowsIn : (List ℕ → Result (Vec ℕ) ArchiveFault → Type 0) → ImageForm → List ℕ → List Event → Result (Unit {0}) Ending → List Event → Type 0
ShowsIn gives form file = Then (LooksIn form file) (λ image. Then (Answers (gives image.items) (length image.items)) (λ bytes. Prints bytes.items))

-- the file is read first
abbrev pub LooksAndShows : (List ℕ → Result (Vec ℕ) ArchiveFault → Type 0) → ImageForm → List Event → Result (Unit {0}) Ending → List Event → Type 0
LooksAndShows gives form = Then (Looks form.file.bytes.items form.file.bytes.items) (λ file. ShowsIn gives form file.items)

-- a command has ended since memory is wanted
abbrev pub LacksMemory : Result (Unit {0}) Ending → Type 0
LacksMemory (Ok it) = ⊥
LacksMemory (Err ending) = EndsForMemory ending

-- These bytes are printed, if standard output takes them; or memory is wanted, and nothing is printed.
abbrev pub PrintsOrLacks : List ℕ → List Event → Result (Unit {0}) Ending → List Event → Type 0
PrintsOrLacks bytes old result new = Prints bytes old result new ⊎ (LacksMemory result × (new ≡ old))

-- The image file at a path has these bytes after a change. It was of these bytes and is as it was, or they were saved. The change's line was
-- printed after that.
pub record HasAfter (path file saved : List ℕ) (old new : List Event) : Type 0 where
  pub begun : List Event
  pub ended : List Event
  pub before : ChangesNothing old begun
  pub held : ((saved ≡ file) × (ended ≡ begun)) ⊎ HasSaved content.Image path saved begun ended
  pub line : List ℕ
  pub told : new ≡ print_call true 0 line ∷ ended

-- whoever gets the file of a name so, of an image file of these bytes that is asked for as by a form, has these bytes printed
abbrev pub IsPrinted : ImageForm → List ℕ → List ℕ → GetForm → List ℕ → Type 0
IsPrinted form file name how bytes =
    (again : ImageForm) (old new : List Event) (result : Result (Unit {0}) Ending) → AreAlike form again
    → ShowsIn (λ image. Gets image (OfName name) how) again file old result new → PrintsOrLacks bytes old result new

-- The bytes that were put are got back. Frames have zeros to the end of their last block. Of a file that is put alone a tape is the one that it begins
-- with, and a text has LF alone at the end of each line.
pub record IsGotBack (form : ImageForm) (image : Image) (file : List ℕ) (files : List NewFile) (old new : List Event) : Type 0 where
  pub saved : List ℕ
  pub held : HasAfter image.place.path.bytes.items file saved old new
  pub frames : (before following : List NewFile) (one : NewFile) (name : List ℕ) → files ≡ before ++ one ∷ following → IsNoneOf one.name following → typed_name name ≡ Some one.name
      → one.form ≡ put_as.Frames → All (λ byte. byte < 256) one.bytes.items → IsPrinted form saved name get_as.Frames (whole_blocks one.bytes.items)
  pub tape : (one : NewFile) (name tape : List ℕ) → files ≡ one ∷ [] → typed_name name ≡ Some one.name → one.form ≡ put_as.Frames → All (λ byte. byte < 256) one.bytes.items
      → IsTapeOf one.bytes.items tape → IsPrinted form saved name get_as.Tape tape
  pub text : (one : NewFile) (name : List ℕ) → files ≡ one ∷ [] → typed_name name ≡ Some one.name → one.form ≡ put_as.Text
      → IsPrinted form saved name get_as.Text (line_feeds one.bytes.items)
