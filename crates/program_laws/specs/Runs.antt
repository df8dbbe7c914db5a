-- What a run of a script means for who keeps its image, and who reads its answers.
use Rattle.std.specs.Prelude.{◌≡◌, ◌≢◌, ℕ, Bool, Ok, List, [], ◌++◌}
use Rattle.byte_reader.specs.Readings.{Reading}
use Rattle.hosts.specs.Event.{Event}
use Rattle.hosts.specs.Place.{Place}
use Rattle.hosts.specs.Streams.{output, output_text}
use Rattle.volume_image.specs.Image.{IsImageOf}
use Rattle.program_tasks.specs.declared.forms.ImageForm.{ImageForm}
use Rattle.program_tasks.specs.declared.tasks.RunForm.{RunForm}
use Rattle.program_tasks.specs.declared.tasks.Saving.TheVariants.{Never}
use Rattle.system_session.specs.Session.{SessionView}
use Rattle.image_files.specs.Laws.{ChangesNothing}
use Rattle.image_files.specs.declared.images.Image.{Image}
use Rattle.script_commands.specs.Laws.{image_file}
use Rattle.script_commands.specs.Scripts.{OpensFor, RunsSession}
use Rattle.keeper_laws.specs.Ended.{TouchesItAlone}
use Rattle.keeper_laws.specs.Seen.{IsSeen}
use Rattle.program_laws.specs.Statuses.{failed_prints}

-- the image file at a path holds the volume of these blocks now
pub record HoldsVolume (start : Place) (path : List ℕ) (blocks : List (List ℕ)) (history : List Event) : Type 0 where
  pub image : Image
  pub of_blocks : IsImageOf image.bytes.items blocks
  pub seen : IsSeen start path history (image_file image)

-- What standard output took is a beginning of the lines of the answers. It is all of them where no print failed.
pub record PrintsBeginning (answers : List ℕ) (old new : List Event) : Type 0 where
  pub printed : List ℕ
  pub others : List ℕ
  pub parts : answers ≡ printed ++ others
  pub text : output_text new ≡ output_text old ++ printed
  pub all : failed_prints (output new) ≡ failed_prints (output old) → others ≡ []

-- A run has ended well. Its image file was opened, and is held unless it is only looked at; the script ran over that. What follows changes no file.
-- So the file holds the volume of the end, if it had the image that was read.
pub record HasRun (named : ImageForm) (form : RunForm) (is_typed : Bool) (input : Reading) (new : List Event) : Type 0 where
  pub before : List Event
  pub begun : List Event
  pub ended : List Event
  pub image : Image
  pub opened : OpensFor form.saving named before (Ok image) begun
  pub session : SessionView
  pub runs : RunsSession form is_typed image session input begun (Ok tt) ended
  pub after : ChangesNothing ended new
  pub holds : form.saving ≢ Never → (start : Place) → IsSeen start image.place.path.bytes.items begun (image_file image) → HoldsVolume start image.place.path.bytes.items runs.end.volume.blocks new

-- After some tries, which changed no file, no file is touched, or the image file that is run over alone, which is held.
abbrev pub TouchesRun : ImageForm → List Event → List Event → Type 0
TouchesRun named old new = (start : List Event) × ChangesNothing old start × TouchesItAlone named start new
