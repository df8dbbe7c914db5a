-- What it means that files are stored on the volume in an image file.
use Rattle.std.specs.Prelude.{◌≡◌, ℕ, Bool, true, false, if◌then◌else◌, Option, None, Some, Ok, List, [], ◌∷◌, ◌++◌}
use Rattle.hosts.specs.Event.{Event, input_call, look_call}
use Rattle.hosts.specs.Streams.{output, read}
use Rattle.archive_many.specs.Putting.{PutsAll}
use Rattle.archive_many.specs.declared.putting.ManyImage.{ManyImage}
use Rattle.archive_many.specs.declared.putting.NewFile.{NewFile}
use Rattle.program_tasks.specs.declared.forms.PutFilesForm.{PutFilesForm}
use Rattle.image_files.specs.Dates.{day_of_time, word_of_day}
use Rattle.image_files.specs.Stored.{words_of}
use Rattle.image_files.specs.declared.dates.FileDay.{FileDay}
use Rattle.image_files.specs.declared.images.Image.{Image}
use Rattle.put_commands.specs.Putting.{Names, given_name, is_input, paths_of, stored_lines}
use Rattle.asked_files.specs.Texts.{put_form}
use Rattle.keeper_laws.specs.Changed.{GetsVolume, IsOpened}

-- the call by which a file of the host is read, or standard input
abbrev pub given_call : Bool → List ℕ → List ℕ → Event
given_call is_input path bytes = if is_input then input_call bytes else look_call path bytes

-- the day that a file is given: that of a time of the host, where this is asked for
abbrev pub IsDayFor : Bool → Option FileDay → Type 0
IsDayFor false day = day ≡ None
IsDayFor true day = (seconds : ℕ) × (day ≡ day_of_time seconds)

-- a path of the host gives a file of the given name, or of its own, as frames or as a text
pub record IsGiven (asked : PutFilesForm) (path : List ℕ) (file : NewFile) : Type 0 where
  pub named : Names (given_name asked) path (Some file.name)
  pub form : file.form ≡ put_form asked.texts file.name
  pub day : Option FileDay
  pub dated : IsDayFor asked.is_dated day
  pub date : file.date ≡ word_of_day day

-- each path gives one, in their order
abbrev pub AreGiven : PutFilesForm → List (List ℕ) → List NewFile → Type 0
AreGiven asked [] [] = Unit {0}
AreGiven asked [] (file ∷ files) = ⊥
AreGiven asked (path ∷ paths) [] = ⊥
AreGiven asked (path ∷ paths) (file ∷ files) = IsGiven asked path file × AreGiven asked paths files

-- the calls by which their bytes were read, the newest first
abbrev pub given_calls : Option (List ℕ) → List (List ℕ) → List NewFile → List Event
given_calls given [] files = []
given_calls given (path ∷ paths) [] = []
given_calls given (path ∷ paths) (file ∷ files) = given_calls given paths files ++ given_call (is_input given path) path file.bytes.items ∷ []

-- Files are stored, all of them. The image file was read, then each file that is put, and nothing else. The image file has its volume now with
-- these files, and with each other file as it was. Their lines were to be printed, and nothing else. Whether they were is `ok`.
pub record HasStored (form : PutFilesForm) (ok : Bool) (old new : List Event) : Type 0 where
  pub image : Image
  pub path : List ℕ
  pub was : List ℕ
  pub opened : IsOpened form.image path was image old
  pub files : List NewFile
  pub given : AreGiven form (paths_of form) files
  pub reads : read new ≡ given_calls (given_name form) (paths_of form) files ++ (look_call path was ∷ read old)
  pub stored : ManyImage
  pub puts : PutsAll image.bytes.items files (words_of form.info) (Ok stored)
  pub has : GetsVolume form.image image path was stored.bytes.items old new
  pub prints : output new ≡ (ok, stored_lines files stored.blocks.items) ∷ output old
