-- What each task does over a host: which command it is, and what is printed at its end (this project's profile).
use Rattle.std.specs.Prelude.{◌≡◌, ◌⊎◌, ℕ, Bool, true, false, codes, map, Option, None, Some, String, Result, Ok, Err, List}
use Rattle.std.specs.Global.{Global}
use Rattle.byte_reader.specs.Readings.{Reading}
use Rattle.hosts.specs.Event.{Event}
use Rattle.program_tasks.specs.declared.archives.IndexForm.{IndexForm}
use Rattle.program_tasks.specs.declared.archives.LineForm.{LineForm}
use Rattle.program_tasks.specs.declared.archives.LineForm.TheVariants.{Columns, Json}
use Rattle.program_tasks.specs.declared.archives.PatchForm.{PatchForm}
use Rattle.program_tasks.specs.declared.forms.GetTextsForm.{GetTextsForm}
use Rattle.program_tasks.specs.declared.forms.ImageForm.{ImageForm}
use Rattle.program_tasks.specs.declared.tasks.RunForm.{RunForm}
use Rattle.program_tasks.specs.declared.tasks.Task.{Task}
use Rattle.program_tasks.specs.declared.tasks.Task.TheVariants as task
use Rattle.archive_files.specs.Getting.{Gets}
use Rattle.volume_index.specs.declared.styles.IndexStyle.{IndexStyle}
use Rattle.outcome.specs.Streams.{gives_data}
use Rattle.outcome.specs.declared.endings.Ending.{Ending}
use Rattle.outcome.specs.declared.endings.Ending.TheVariants.{Fault}
use Rattle.refusals.specs.declared.faults.SessionFault.TheVariants.{Memory}
use Rattle.image_files.specs.Work.{Then, Purely}
use Rattle.image_files.specs.Ending.{EndsSo}
use Rattle.change_commands.specs.Creating.{CreatesFile, CreatesVolume, IsBlankDisk, IsBlankImage, IsBlankTapeFile}
use Rattle.change_commands.specs.declared.creating.TheConstants.{DISK_BLOCKS, TAPE_BLOCKS}
use Rattle.change_commands.specs.Changing.{Renames, Squeezes}
use Rattle.change_commands.specs.Copying.{Copies}
use Rattle.change_commands.specs.Deleting.{Deletes}
use Rattle.put_commands.specs.Putting.{Puts}
use Rattle.image_files.specs.Reading.{reading_of}
use Rattle.get_commands.specs.Showing.{Shows}
use Rattle.archive_files.specs.Asking.{target_of}
use Rattle.get_commands.specs.ShowingParts.{ShowsBlocks, ShowsTape}
use Rattle.image_files.specs.declared.mending.ImageReading.{ImageReading}
use Rattle.show_commands.specs.Checking.{ChecksImages}
use Rattle.get_commands.specs.GettingMany.{GetsMany}
use Rattle.show_commands.specs.Volumes.{ReportsOne}
use Rattle.show_commands.specs.declared.reports.ReportKind.TheVariants as report
use Rattle.show_commands.specs.Listing.{ListsSome}
use Rattle.get_commands.specs.Texts.{ShowsTexts}
use Rattle.show_commands.specs.Dumping.{Dumps}
use Rattle.change_commands.specs.Patching.{PatchesWord}
use Rattle.change_commands.specs.declared.patches.WordPatch.{WordPatch}
use Rattle.index_commands.specs.Indexing.{Indexes}
use Rattle.index_commands.specs.declared.columns.LineShape.{LineShape}
use Rattle.salvage_commands.specs.Rescuing.{RescuesImage}
use Rattle.salvage_commands.specs.ScanningBlocks.{ShowsPieces, WritesPieces}
use Rattle.tape_commands.specs.Rims.{WritesRim}
use Rattle.tape_commands.specs.Sources.{WritesSource}
use Rattle.tape_commands.specs.Tapes.{ListsTape}
use Rattle.assemble_commands.specs.Assembling.{Assembles}
use Rattle.script_commands.specs.Scripts.{OpensFor, RunsOver}
use Rattle.run_commands.specs.Boots.{BootsDisk}
use Rattle.run_commands.specs.Profiles.{ProfilesTape}
use Rattle.run_commands.specs.Teletypes.{RunsTeletype}
use Rattle.run_commands.specs.Traces.{TracesTape}
use Rattle.image_files.specs.Waiting.{Within}
use Rattle.program.specs.Changes.{file_for, seconds_for}
use Rattle.image_files.specs.declared.states.ImageNotes.{ImageNotes}
use Rattle.program.specs.Changed.{AreNotesFor, image_of}
use Rattle.program.specs.Asking.{AsksFirst, file_of_form}

-- ## What a task asks of its command

-- the word that is to stand in the image, and the one that stands there
abbrev pub word_patch : PatchForm → WordPatch
word_patch form = record { block = form.block; number = form.number; old = form.old; new = form.new }

abbrev pub is_json : LineForm → Bool
is_json Columns = false
is_json Json = true

-- the pattern that chooses the files of an index, if none is given that of all names
abbrev pub pattern_or_all : Option (String Global) → List ℕ
pattern_or_all None = codes "*.*"
pattern_or_all (Some pattern) = pattern.bytes.items

-- which files an index has
pub record IsStyle (form : IndexForm) (style : IndexStyle) : Type 0 where
  pub find : style.find.bytes.items ≡ pattern_or_all form.find
  pub grep : style.grep ≡ form.grep
  pub year : style.year ≡ form.year

-- how its lines are printed, and whether they are those of equal files alone
abbrev pub shape_of : IndexForm → LineShape
shape_of form = record { is_json = is_json form.form; is_same = form.is_same }

-- how the images of an index are read
abbrev pub reading_of_index : IndexForm → ImageReading
reading_of_index form = record { layout = form.layout; is_plain = form.is_plain; is_lenient = form.is_lenient }

abbrev pub ChoosesStyle : IndexForm → Result IndexStyle Ending → Type 0
ChoosesStyle form (Ok style) = IsStyle form style
ChoosesStyle form (Err ending) = ending ≡ Fault Memory

-- the index of the images that are given, of the files that it is to have
abbrev pub ListsIndex : IndexForm → List Event → Result (Unit {0}) Ending → List Event → Type 0
ListsIndex form = Then (Purely (ChoosesStyle form)) (λ style. Indexes style (shape_of form) (reading_of_index form) (map (λ image. image.bytes.items) form.images.items))

-- the texts of the files that are asked for are printed
abbrev pub PrintsTexts : GetTextsForm → List Event → Result (Unit {0}) Ending → List Event → Type 0
PrintsTexts form = ShowsTexts form.image form.is_all (map (λ name. name.bytes.items) form.names.items) form.places.items

-- what blocks hold is listed, and written to a folder where one is given
abbrev pub ScansBlocks : Option (String Global) → ImageForm → List Event → Result (Unit {0}) Ending → List Event → Type 0
ScansBlocks None image = ShowsPieces image
ScansBlocks (Some folder) image = WritesPieces folder.bytes.items image

-- ## Tasks

-- An image file is opened for a run, which is tried again while another program holds it. Then the input is run as a script over its volume.
abbrev pub RunsImage : ImageForm → RunForm → Bool → Reading → List Event → Result (Unit {0}) Ending → List Event → Type 0
RunsImage named form is_typed input = Then (Within named.wait named.file.bytes.items (OpensFor form.saving named)) (λ image. RunsOver form is_typed image input)

-- A task is one command. At a terminal a new volume takes the place of a file only where that is answered. The keys of a Teletype come from the input, and so does a script, which a person may type at a terminal.
abbrev pub DoesTask : Task → Bool → Reading → List Event → Result (Unit {0}) Ending → List Event → Type 0
DoesTask (task.Tape tape) is_typed input = ListsTape tape
DoesTask (task.Rim tape form) is_typed input = WritesRim form tape
DoesTask (task.Source form) is_typed input = WritesSource form
DoesTask (task.Assemble form) is_typed input = Within (seconds_for form.from) (file_for form.from) (Assembles form)
DoesTask (task.Teletype form) is_typed input = RunsTeletype form input
DoesTask (task.Boot form) is_typed input = BootsDisk form input
DoesTask (task.Trace form) is_typed input = TracesTape form
DoesTask (task.Profile form) is_typed input = ProfilesTape form
DoesTask (task.Create form blocks) is_typed input = Then (AsksFirst is_typed (file_of_form form) input) (λ it. Within form.wait form.file.bytes.items (CreatesFile (IsBlankImage blocks) form blocks))
DoesTask (task.CreateTape form) is_typed input = Then (AsksFirst is_typed (file_of_form form) input) (λ it. Within form.wait form.file.bytes.items (CreatesFile IsBlankTapeFile form TAPE_BLOCKS))
DoesTask (task.CreateDisk form) is_typed input = Then (AsksFirst is_typed (file_of_form form) input) (λ it. Within form.wait form.file.bytes.items (CreatesFile IsBlankDisk form DISK_BLOCKS))
DoesTask (task.CreateVolume image) is_typed input = Then (AsksFirst is_typed (Some image.file.bytes.items) input) (λ it. Within image.wait image.file.bytes.items (CreatesVolume image))
DoesTask (task.List image) is_typed input = ReportsOne report.Files (reading_of image) image.file.bytes.items
DoesTask (task.ListLong image year) is_typed input = ReportsOne (report.Places year) (reading_of image) image.file.bytes.items
DoesTask (task.ListSome form) is_typed input = ListsSome form
DoesTask (task.Get image file form) is_typed input = Shows (λ bytes. Gets bytes (target_of file) form) image
DoesTask (task.GetBin image file) is_typed input = ShowsTape file image
DoesTask (task.GetMany form) is_typed input = GetsMany form
DoesTask (task.GetTexts form) is_typed input = PrintsTexts form
DoesTask (task.GetBlocks form) is_typed input = ShowsBlocks form
DoesTask (task.Put form) is_typed input = Within form.image.wait form.image.file.bytes.items (Puts form)
DoesTask (task.Delete form) is_typed input = Within form.image.wait form.image.file.bytes.items (Deletes form)
DoesTask (task.Rename image file new) is_typed input = Within image.wait image.file.bytes.items (Renames (target_of file) new.bytes.items image)
DoesTask (task.Copy form) is_typed input = Within form.to.wait form.to.file.bytes.items (Copies form)
DoesTask (task.Squeeze image) is_typed input = Within image.wait image.file.bytes.items (Squeezes image)
DoesTask (task.Check form) is_typed input = ChecksImages form
DoesTask (task.Dump form) is_typed input = Dumps form.span form.is_sixbit form.image
DoesTask (task.Patch form) is_typed input = Within form.image.wait form.image.file.bytes.items (PatchesWord (word_patch form) form.image)
DoesTask (task.Index form) is_typed input = ListsIndex form
DoesTask (task.Rescue form) is_typed input = RescuesImage form.new.bytes.items form.image
DoesTask (task.Scan form) is_typed input = ScansBlocks form.into form.image
DoesTask (task.Run image form) is_typed input = RunsImage image form is_typed input

-- A task is done, and then what its end prints is printed: that is the status. The notes are on the image that it may change.
pub record EndsTask (task : Task) (is_typed : Bool) (input : Reading) (old new : List Event) (status : ℕ) : Type 0 where
  pub notes : Option ImageNotes
  pub are : AreNotesFor (image_of task) notes
  pub work : Result (Unit {0}) Ending
  pub between : List Event
  pub does : DoesTask task is_typed input old work between
  pub ends : EndsSo (gives_data task) notes work between new status

-- it is done so, unless memory is wanted for the notes first
abbrev pub RunsTask : Task → Bool → Reading → List Event → List Event → ℕ → Type 0
RunsTask task is_typed input old new status = EndsTask task is_typed input old new status ⊎ EndsSo (gives_data task) None (Err (Fault Memory)) old new status
