-- What it means that the volume in an image file is squeezed, or has a new name of a file, or fewer files, or another word.
use Rattle.std.specs.Prelude.{◌≡◌, ℕ, Bool, true, false, if◌then◌else◌, None, List, ◌∷◌, Ok, map}
use Rattle.std.specs.FinMap.{get}
use Rattle.std.specs.Global.{Vec}
use Rattle.hosts.specs.Event.{Event, look_call}
use Rattle.hosts.specs.Streams.{output, read}
use Rattle.volume_image.specs.Image.{IsImageOf}
use Rattle.os8_dir.specs.Files.{files_of}
use Rattle.name_spelling.specs.Patterns.{has_pattern, is_like_one}
use Rattle.archive_files.specs.Asking.{Target}
use Rattle.archive_files.specs.Deleting.{DeletesFiles}
use Rattle.archive_files.specs.Opening.{IsOpened as IsSound}
use Rattle.archive_files.specs.Renaming.{RenamesFile}
use Rattle.archive_files.specs.Squeezing.{SqueezesFiles}
use Rattle.archive_files.specs.declared.deleting.DeletedImage.{DeletedImage}
use Rattle.archive_many.specs.Opened.{OpensVolume, files_on}
use Rattle.archive_many.specs.Wishing.{by_place, first_unfound, found_files, wishes_of}
use Rattle.program_reports.specs.Program.{program_line}
use Rattle.program_reports.specs.declared.programs.ProgramLine.TheVariants as line
use Rattle.program_tasks.specs.declared.forms.DeleteForm.{DeleteForm}
use Rattle.program_tasks.specs.declared.forms.ImageForm.{ImageForm}
use Rattle.image_files.specs.declared.images.Image.{Image}
use Rattle.block_words.specs.Patching.{Patches}
use Rattle.change_commands.specs.Patching.{patched_text}
use Rattle.change_commands.specs.declared.patches.WordPatch.{WordPatch}
use Rattle.asked_files.specs.Asking.{wanted_files}
use Rattle.change_commands.specs.Choosing.{words_in}
use Rattle.change_commands.specs.Creating.{IsBlankImage}
use Rattle.change_commands.specs.Deleting.{deleted_lines}
use Rattle.change_commands.specs.declared.creating.TheConstants.{DISK_BLOCKS}
use Rattle.keeper_laws.specs.Changed.{GetsVolume, IsOpened}

-- A volume is changed. The image file was read, and nothing else. It has the volume now that its bytes give. The lines that report this were to
-- be printed, and nothing else. Whether they were is `ok`.
pub record HasChanged {A : Type 0} (gives : List ℕ → A → Type 0) (image_of lines_of : A → List ℕ) (form : ImageForm) (ok : Bool) (old new : List Event) : Type 0 where
  pub image : Image
  pub path : List ℕ
  pub was : List ℕ
  pub opened : IsOpened form path was image old
  pub reads : read new ≡ look_call path was ∷ read old
  pub made : A
  pub gave : gives image.bytes.items made
  pub has : GetsVolume form image path was (image_of made) old new
  pub prints : output new ≡ (ok, lines_of made) ∷ output old

-- its files are moved together
abbrev pub HasSqueezed : ImageForm → Bool → List Event → List Event → Type 0
HasSqueezed = HasChanged (λ image made. SqueezesFiles image (Ok made)) (λ made. made.bytes.items) (λ made. program_line (line.Squeezed made.move_count))

-- one of its files has another name
abbrev pub HasRenamed : Target → List ℕ → ImageForm → Bool → List Event → List Event → Type 0
HasRenamed wanted other =
    HasChanged (λ image made. RenamesFile image wanted other (Ok made)) (λ made. made.bytes.items) (λ made. program_line (line.Renamed made.old_name made.new_name))

-- the files of a volume that words and first blocks choose, each once; each word chooses one at least
pub record AreFound (form : DeleteForm) (image : List ℕ) (files : List Target) : Type 0 where
  pub blocks : List (List ℕ)
  pub opens : OpensVolume image (Ok blocks)
  pub all : first_unfound (wishes_of (files_on blocks) false (words_in form) form.places.items) ≡ None
  pub are : files ≡ map by_place (found_files (wishes_of (files_on blocks) false (words_in form) form.places.items))

-- the files that are meant: those that the words choose, if a pattern is among these, else those of the names and of the blocks
abbrev pub AreMeant : Bool → DeleteForm → List ℕ → List Target → Type 0
AreMeant true form image files = AreFound form image files
AreMeant false form image files = files ≡ wanted_files form

-- an image without the files that are meant
abbrev pub DeletesMeant : DeleteForm → List ℕ → DeletedImage → Type 0
DeletesMeant form image made = (files : List Target) × AreMeant (has_pattern (words_in form)) form image files × DeletesFiles image files (Ok made)

-- it is without the files that are meant
abbrev pub HasDeleted : DeleteForm → Bool → List Event → List Event → Type 0
HasDeleted form = HasChanged (DeletesMeant form) (λ made. made.bytes.items) (λ made. deleted_lines made.names.items) form.image

-- The new volume has just those files of the old one whose names are like no word. Each has its words and its information words.
pub record IsWithout (words : List (List ℕ)) (old new : List ℕ) : Type 0 where
  pub blocks : List (List ℕ)
  pub opened : IsSound old blocks
  pub after : List (List ℕ)
  pub is_image : IsImageOf new after
  pub files : (name : ℕ) → get (files_of after) name ≡ (if is_like_one words name then None else get (files_of blocks) name)

-- one of its words is another one
abbrev pub HasPatched : WordPatch → ImageForm → Bool → List Event → List Event → Type 0
HasPatched word = HasChanged {A = Vec ℕ} (λ image made. Patches image word.block word.number word.old word.new (Ok tt) made.items) (λ made. made.items) (λ made. patched_text word)

-- it has no file; the other volume of its disk stays
abbrev pub HasEmptied : ImageForm → Bool → List Event → List Event → Type 0
HasEmptied = HasChanged {A = Vec ℕ} (λ image made. IsBlankImage DISK_BLOCKS (Ok made)) (λ made. made.items) (λ made. program_line (line.Created DISK_BLOCKS))
