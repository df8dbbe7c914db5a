-- The command that runs a script over the volume of an image file.
use Rattle.std.specs.Prelude.{◌≡◌, ◌≢◌, ◌⊎◌, ◌&&◌, ◌<◌, ◌≤◌, ℕ, List, [], ◌++◌, is_some, length, not, Bool, true, false, if◌then◌else◌, Option, None, Some, Result, Ok, Err}
use Rattle.std.specs.Global.{Vec}
use Rattle.word12.specs.declared.sizes.TheConstants.{CORE}
use Rattle.core_load.specs.Core.{zeros}
use Rattle.cpu8.specs.State.{new_machine}
use Rattle.debug8.specs.Breaks.{no_breaks}
use Rattle.os8_dir.specs.Reading.{Sound}
use Rattle.volume_image.specs.Image.{IsImageOf}
use Rattle.volume_image.specs.declared.faults.ImageFault.TheVariants.{NotWhole}
use Rattle.volume_jobs.specs.Jobs.{no_jobs}
use Rattle.archive_files.specs.Opening.{IsUnopened}
use Rattle.archive_files.specs.declared.faults.ArchiveFault.{ArchiveFault}
use Rattle.archive_files.specs.declared.faults.ArchiveFault.TheVariants as archive
use Rattle.byte_reader.specs.Readings.{Reading}
use Rattle.hosts.specs.Event.{Event}
use Rattle.hosts.specs.declared.faults.PrintFault.{PrintFault}
use Rattle.hosts.specs.declared.faults.PrintFault.TheVariants.{Abandoned, Failed}
use Rattle.hosts.specs.Streams.{output_text}
use Rattle.program_tasks.specs.declared.forms.ImageForm.{ImageForm}
use Rattle.program_tasks.specs.declared.tasks.RunForm.{RunForm}
use Rattle.program_tasks.specs.declared.tasks.Saving.{Saving}
use Rattle.program_tasks.specs.declared.tasks.Saving.TheVariants.{Never, AtEnd, Always}
use Rattle.outcome.specs.declared.endings.Ending.{Ending}
use Rattle.outcome.specs.declared.endings.Ending.TheVariants.{Fault, Failure, FullOutput, Unreported, NoReader}
use Rattle.script8.specs.Reading.{MayReadNoMore, TakesBytes}
use Rattle.refusals.specs.declared.faults.TheConstants.{MOST}
use Rattle.refusals.specs.declared.faults.SessionFault.{SessionFault}
use Rattle.refusals.specs.declared.faults.SessionFault.TheVariants.{Memory, Reader, Writer}
use Rattle.system_session.specs.Script.{RunsText}
use Rattle.system_session.specs.Session.{SessionView, state_of}
use Rattle.system_session.specs.ShownAnswers.{ShownAnswer, ShowsText}
use Rattle.image_files.specs.Answers.{Answers}
use Rattle.image_files.specs.Judging.{Judges}
use Rattle.image_files.specs.Reading.{FindsForScript, Looks, OpensForScript}
use Rattle.image_files.specs.Saving.{IsDone}
use Rattle.image_files.specs.Work.{Then, Purely, ending_after}
use Rattle.image_files.specs.declared.images.Image.{Image}
use Rattle.script_commands.specs.Steps.{Step, AreDone, AreKept, AreReplies, AreUnsaved, has_cut, has_refusal, last_image, printed_text, reply_text, print_fault, save_ending}

-- ## The image

-- an image that is only read, and so is never saved
abbrev pub IsOnlyRead : Vec ℕ → Result Image Ending → Type 0
IsOnlyRead bytes (Ok image) = (image.place.is_held ≡ false) × (image.bytes ≡ bytes) × (image.disk ≡ None) × (image.parts ≡ None)
IsOnlyRead bytes (Err ending) = ⊥

abbrev pub OnlyReads : ImageForm → List Event → Result Image Ending → List Event → Type 0
OnlyReads form = Then (Looks form.file.bytes.items form.file.bytes.items) (λ file. Then (Judges form.file.bytes.items form.layout form.is_plain file.items) (λ it. Then (FindsForScript form.layout form.is_plain file.items) (λ bytes. Purely (IsOnlyRead bytes))))

-- An image file is held and then read; or it is only read, where the image is never to be saved. A file that may be a volume by its length is
-- one, whatever it holds.
abbrev pub OpensFor : Saving → ImageForm → List Event → Result Image Ending → List Event → Type 0
OpensFor Never form = OnlyReads form
OpensFor AtEnd form = OpensForScript form
OpensFor Always form = OpensForScript form

-- memory may be wanted for what a run has beside the image
abbrev pub IsRoom : {A : Type 0} → Result A Ending → Type 0
IsRoom (Ok room) = Unit {0}
IsRoom (Err ending) = ending ≡ Fault Memory

-- ## The session

-- a session over the volume of an image: no job, no file held, and a new machine
pub record IsNewSession (image : List ℕ) (s : SessionView) : Type 0 where
  pub is_image : IsImageOf image s.volume.blocks
  pub sound : Sound s.volume.blocks
  pub running : s.volume.stopped ≡ false
  pub holds : s.volume.holds ≡ []
  pub jobs : s.jobs ≡ no_jobs
  pub console : s.console ≡ record { machine = new_machine (zeros CORE); breaks = no_breaks CORE; printed = [] }
  pub reads : s.volume.failed_reads ≡ 0
  pub writes : s.volume.failed_writes ≡ 0

-- the volume has the whole file but for bytes that stand before or after it
abbrev pub is_parted : Image → Bool
is_parted image = is_some image.parts && not (is_some image.disk)

-- Such a volume is taken only where it is sound. Else the file is refused by its length, since it is no whole blocks.
abbrev pub fault_in : Bool → ArchiveFault → ArchiveFault
fault_in false why = why
fault_in true (archive.Image why) = archive.Image NotWhole
fault_in true (archive.Directory why) = archive.Image NotWhole
fault_in true (archive.Refused why) = archive.Refused why

-- that of an image, or why there is none; a store in memory fails no read
abbrev pub MountsSession : Bool → List ℕ → Result SessionView ArchiveFault → Type 0
MountsSession is_beside image (Ok session) = IsNewSession image session
MountsSession is_beside image (Err fault) = (why : ArchiveFault) × IsUnopened image why × (fault ≡ fault_in is_beside why)

-- ## The end

-- standard output takes no more: the image file has what the session did, unless it is never to have that
abbrev pub full_ending : Saving → Ending
full_ending Never = FullOutput
full_ending AtEnd = Unreported
full_ending Always = Unreported

-- how a run ends whose output failed so: nobody reads the pipe that it is, or it takes no more
abbrev pub ending_of_output : Saving → Option PrintFault → Ending
ending_of_output saving (Some Abandoned) = NoReader
ending_of_output saving (Some Failed) = full_ending saving
ending_of_output saving None = full_ending saving

-- How a run ends: its image could not be saved; or a reply was refused, where that is a fault; or its script broke off. Such a reply counts
-- also where nobody reads any more.
abbrev pub ending_of : Saving → Bool → Option Ending → Option PrintFault → Result (Unit {0}) SessionFault → Option Ending
ending_of saving is_fault (Some ending) fault answer = Some ending
ending_of saving is_fault None fault (Ok it) = if is_fault then Some Failure else None
ending_of saving is_fault None fault (Err Writer) = Some (ending_after (not is_fault) (ending_of_output saving fault))
ending_of saving is_fault None fault (Err why) = Some Failure

abbrev pub IsEndedBy : Option Ending → Result (Unit {0}) Ending → Type 0
IsEndedBy None result = IsDone result
IsEndedBy (Some ending) result = result ≡ Err ending

abbrev pub EndsRun : Saving → Bool → Bool → Option Ending → Option PrintFault → Result (Unit {0}) SessionFault → Result (Unit {0}) Ending → Type 0
EndsRun saving is_strict is_refused why fault answer = IsEndedBy (ending_of saving (is_strict && is_refused) why fault answer)

-- ## The run

-- What a run of a script over a session does. The reader's bytes are its script, and the lines of its answers are printed, but for some
-- where standard output takes no more. The reader's fault is an answer only where it has failed, or gave a byte too many. The file has the
-- image of the volume at the end, where it is to be saved and could be. Where each change is to be kept, it had that of the volume right
-- after each reply before the reply's lines. `shows` says which states these are of.
pub record RunsSession (form : RunForm) (is_typed : Bool) (image : Image) (session : SessionView) (input : Reading) (old : List Event) (result : Result (Unit {0}) Ending) (new : List Event) : Type 0 where
  pub steps : List Step
  pub done : AreDone is_typed image steps old new
  pub end : SessionView
  pub answer : Result (Unit {0}) SessionFault
  pub told : RunsText 16777216 (state_of session) (state_of end) input.before input.after (Some (output_text old)) (Some (output_text old ++ reply_text steps)) answer
  pub shown : List ShownAnswer
  pub shows : ShowsText 16777216 (state_of session) shown (state_of end) input.before input.after (Some (output_text old)) (Some (output_text old ++ reply_text steps)) answer
  pub replies : AreReplies steps shown
  pub waiting : List ℕ
  pub printed : reply_text steps ≡ printed_text steps ++ waiting
  pub all : print_fault steps ≡ None → waiting ≡ []
  pub text : output_text new ≡ output_text old ++ printed_text steps
  pub never : form.saving ≡ Never → AreUnsaved steps
  pub kept : form.saving ≡ Always → AreKept image steps
  pub saved : form.saving ≢ Never → save_ending steps ≡ None → IsImageOf (last_image image steps).bytes.items end.volume.blocks
  pub cause : answer ≡ Err Reader → MayReadNoMore 16777216 input.has_failed input.before input.after
  pub stopped : answer ≡ Err Writer → (save_ending steps ≢ None) ⊎ (print_fault steps ≢ None)
  pub cut : has_cut steps ≡ true → (count : ℕ) × TakesBytes input.before input.after count × (MOST < count)
  pub whole : has_cut steps ≡ false → (count : ℕ) × TakesBytes input.before input.after count × (count ≤ MOST)
  pub ends : EndsRun form.saving form.is_strict (has_refusal steps) (save_ending steps) (print_fault steps) answer result

-- A script runs over a session of an image's volume, unless memory is wanted, or the image is refused.
abbrev pub RunsOver : RunForm → Bool → Image → Reading → List Event → Result (Unit {0}) Ending → List Event → Type 0
RunsOver form is_typed image input = Then (Purely (IsRoom {A = Unit {0}})) (λ room. Then (Answers (MountsSession (is_parted image) image.bytes.items) (length image.bytes.items)) (λ session. RunsSession form is_typed image session input))

-- An image file is held and read, and the script runs over it.
abbrev pub RunsScript : ImageForm → RunForm → Bool → Reading → List Event → Result (Unit {0}) Ending → List Event → Type 0
RunsScript named form is_typed input = Then (OpensFor form.saving named) (λ image. RunsOver form is_typed image input)
